-- `stream::checks::refusal` meets its contract: at each return the tests before it held, and its
-- own failed.
use mathlib.Core.Path.{sym, ◌∙◌}
use Prim.Native.Nat.{◌+◌, ◌≤◌}
use native.Mathlib.Omega.{arith}
use Rattle.table.specs.Layout.{rules_of}
use Rattle.table.specs.Automaton.{automaton}
use Rattle.table.proofs.Test.{passes}
use Rattle.stream.specs.Valid.{stream_limit}
use Rattle.stream.proofs.Bounds.{twice-fits}
use Rattle.stream.proofs.Accepting.{fitting, valid-parts, refused-table, refused-state, refused-closed, refused-long, refused-space, not-refused}
use Rattle.stream.proofs.checks.refusal.Goals as goal

pub returns-then-not-is_table : goal.returns-then-not-is_table
returns-then-not-is_table c =
    let a = c.args in
    refused-table a.words.now a.s a.len a.space (sym c.is_table.ensures ∙ c.if-not-is_table.true)

pub is_valid-requires : goal.is_valid-requires
is_valid-requires c = (passes c.args.words.now (sym c.is_table.ensures ∙ c.if-not-is_table.false)).long

pub returns-then-not-is_valid : goal.returns-then-not-is_valid
returns-then-not-is_valid c =
    let a = c.args in
    let t = a.words.now in
    let table = sym c.is_table.ensures ∙ c.if-not-is_table.false in
    refused-state t a.s a.len a.space table (sym c.is_valid.ensures ∙ c.if-not-is_valid.true)

pub returns-then-s : goal.returns-then-s
returns-then-s c =
    let a = c.args in
    let t = a.words.now in
    let table = sym c.is_table.ensures ∙ c.if-not-is_table.false in
    let state = sym c.is_valid.ensures ∙ c.if-not-is_valid.false in
    refused-closed t a.s a.len a.space table state c.if-s.true

pub bounds-words-1 : goal.bounds-words-1
bounds-words-1 c =
    omega (arith, (passes c.args.words.now (sym c.is_table.ensures ∙ c.if-not-is_table.false)).long)

pub overflow_sub-s : goal.overflow_sub-s
overflow_sub-s c =
    let a = c.args in
    let t = a.words.now in
    let state = sym c.is_valid.ensures ∙ c.if-not-is_valid.false in
    omega (arith, (fitting (automaton t) a.s (valid-parts (automaton t) a.s state).0).limit)

pub returns-then-s-len : goal.returns-then-s-len
returns-then-s-len c =
    let a = c.args in
    let t = a.words.now in
    let table = sym c.is_table.ensures ∙ c.if-not-is_table.false in
    let state = sym c.is_valid.ensures ∙ c.if-not-is_valid.false in
    refused-long t a.s a.len a.space table state c.if-s.false (omega (arith, c.if-s-len.true))

pub overflow_mul-words : goal.overflow_mul-words
overflow_mul-words c =
    let t = c.args.words.now in
    twice-fits (rules_of t) (passes t (sym c.is_table.ensures ∙ c.if-not-is_table.false)).rules

pub returns-then-space-words : goal.returns-then-space-words
returns-then-space-words c =
    let a = c.args in
    let t = a.words.now in
    let table = sym c.is_table.ensures ∙ c.if-not-is_table.false in
    let state = sym c.is_valid.ensures ∙ c.if-not-is_valid.false in
    let short : a.s.taken + a.len ≤ stream_limit = omega (arith, c.if-s-len.false, (fitting (automaton t) a.s (valid-parts (automaton t) a.s state).0).limit) in
    refused-space t a.s a.len a.space table state c.if-s.false short c.if-space-words.true

pub returns : goal.returns
returns c =
    let a = c.args in
    let t = a.words.now in
    let table = sym c.is_table.ensures ∙ c.if-not-is_table.false in
    let state = sym c.is_valid.ensures ∙ c.if-not-is_valid.false in
    let short : a.s.taken + a.len ≤ stream_limit = omega (arith, c.if-s-len.false, (fitting (automaton t) a.s (valid-parts (automaton t) a.s state).0).limit) in
    not-refused t a.s a.len a.space table state c.if-s.false short c.if-space-words.false
