-- `traced::checks::refusal` meets its contract: at each return the tests before it held, and its
-- own failed.
use mathlib.Core.Path.{◌≡◌, sym, ◌∙◌}
use mathlib.Core.Bool.{Bool, true, ◌&&◌}
use mathlib.Core.List.{List}
use Prim.Native.Nat.{ℕ, ◌≤◌}
use native.Mathlib.Omega.{arith}
use lib.Dec.{leb}
use lib.ListN.{length}
use borrow.Author.Tests.{le-leb}
use Rattle.table.specs.Layout.{table_words, rules_of}
use Rattle.table.specs.Table.{is_table}
use Rattle.table.specs.Automaton.{automaton}
use Rattle.table.proofs.Test.{passes}
use Rattle.stream.specs.Valid.{sound, stream_limit}
use Rattle.stream.proofs.Bounds.{twice-fits}
use Rattle.stream.proofs.Accepting.{fitting}
use Rattle.traced.specs.declared.Traced.{Traced}
use Rattle.traced.specs.Valid.{valid}
use Rattle.traced.proofs.Accepting.{in_order, not_sound, not-ordered, both, sound-on, refused-table, refused-state, refused-closed, refused-long, refused-space, not-refused}
use Rattle.traced.proofs.checks.refusal.Goals as goal

-- what the tests say that are passed: the words are a table, the stream is sound, the starts are in
-- order
module _ (t : List ℕ) (z : Traced) {r : Bool} (table : is_table t ≡ true) (is : r ≡ (leb table_words (length t) && sound (automaton t) z.stream)) where
  sound-by : r ≡ sound (automaton t) z.stream
  sound-by = sound-on t z.stream r table (leb table_words (length t)) is (le-leb table_words (length t) (passes t table).long)

  within : r ≡ true → z.stream.taken ≤ stream_limit
  within e = (fitting (automaton t) z.stream (sym sound-by ∙ e)).limit

  valid-by : r ≡ true → in_order z ≡ true → valid (automaton t) z ≡ true
  valid-by e ordered = both (automaton t) z (sym sound-by ∙ e) ordered

pub returns-then-not-is_table : goal.returns-then-not-is_table
returns-then-not-is_table c =
    let a = c.args in
    refused-table a.words.now a.z.now a.len a.space (sym c.is_table.ensures ∙ c.if-not-is_table.true)

pub returns-then-not-is_sound : goal.returns-then-not-is_sound
returns-then-not-is_sound c =
    let a = c.args in
    let t = a.words.now in
    let table = sym c.is_table.ensures ∙ c.if-not-is_table.false in
    refused-state t a.z.now a.len a.space table
    (not_sound (automaton t) a.z.now (sym (sound-by t a.z.now table c.is_sound.ensures) ∙ c.if-not-is_sound.true))

pub returns-then-not-starts_ok : goal.returns-then-not-starts_ok
returns-then-not-starts_ok c =
    let a = c.args in
    let table = sym c.is_table.ensures ∙ c.if-not-is_table.false in
    refused-state a.words.now a.z.now a.len a.space table
    (not-ordered (automaton a.words.now) a.z.now (sym c.starts_ok.ensures ∙ c.if-not-starts_ok.true))

pub returns-then-z : goal.returns-then-z
returns-then-z c =
    let a = c.args in
    let t = a.words.now in
    let table = sym c.is_table.ensures ∙ c.if-not-is_table.false in
    let good = valid-by t a.z.now table c.is_sound.ensures c.if-not-is_sound.false (sym c.starts_ok.ensures ∙ c.if-not-starts_ok.false) in
    refused-closed t a.z.now a.len a.space table good c.if-z.true

pub bounds-words-1 : goal.bounds-words-1
bounds-words-1 c =
    omega (arith, (passes c.args.words.now (sym c.is_table.ensures ∙ c.if-not-is_table.false)).long)

pub overflow_sub-z : goal.overflow_sub-z
overflow_sub-z c =
    let a = c.args in
    let table = sym c.is_table.ensures ∙ c.if-not-is_table.false in
    omega (arith, within a.words.now a.z.now table c.is_sound.ensures c.if-not-is_sound.false)

pub returns-then-z-len : goal.returns-then-z-len
returns-then-z-len c =
    let a = c.args in
    let t = a.words.now in
    let table = sym c.is_table.ensures ∙ c.if-not-is_table.false in
    let good = valid-by t a.z.now table c.is_sound.ensures c.if-not-is_sound.false (sym c.starts_ok.ensures ∙ c.if-not-starts_ok.false) in
    refused-long t a.z.now a.len a.space table good c.if-z.false
    (omega (arith, c.if-z-len.true, within t a.z.now table c.is_sound.ensures c.if-not-is_sound.false))

pub overflow_mul-words : goal.overflow_mul-words
overflow_mul-words c =
    let t = c.args.words.now in
    twice-fits (rules_of t) (passes t (sym c.is_table.ensures ∙ c.if-not-is_table.false)).rules

pub returns-then-space-words : goal.returns-then-space-words
returns-then-space-words c =
    let a = c.args in
    let t = a.words.now in
    let table = sym c.is_table.ensures ∙ c.if-not-is_table.false in
    let good = valid-by t a.z.now table c.is_sound.ensures c.if-not-is_sound.false (sym c.starts_ok.ensures ∙ c.if-not-starts_ok.false) in
    refused-space t a.z.now a.len a.space table good c.if-z.false
    (omega (arith, c.if-z-len.false, within t a.z.now table c.is_sound.ensures c.if-not-is_sound.false)) c.if-space-words.true

pub returns : goal.returns
returns c =
    let a = c.args in
    let t = a.words.now in
    let table = sym c.is_table.ensures ∙ c.if-not-is_table.false in
    let good = valid-by t a.z.now table c.is_sound.ensures c.if-not-is_sound.false (sym c.starts_ok.ensures ∙ c.if-not-starts_ok.false) in
    not-refused t a.z.now a.len a.space table good c.if-z.false
    (omega (arith, c.if-z-len.false, within t a.z.now table c.is_sound.ensures c.if-not-is_sound.false)) c.if-space-words.false
