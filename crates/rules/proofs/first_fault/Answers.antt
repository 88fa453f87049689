-- `rules::first_fault` meets its contract: each return has passed the tests before it.
use mathlib.Core.Path.{◌≡◌, sym, ap, ◌∙◌}
use mathlib.Core.Bool.{Bool, not, not-not}
use native.Mathlib.Omega.{arith}
use Rattle.table.proofs.Test.{passes}
use Rattle.rules.proofs.Answer.{fault-0, fault-1, fault-2, fault-24, fault-3, fault-4}
use Rattle.rules.proofs.first_fault.Goals as goal

-- a flag is unknown where not all are known
other : {k u b : Bool} → k ≡ not u → k ≡ b → u ≡ not b
other {k = k} {u = u} e f = sym (not-not u) ∙ ap not (sym e ∙ f)

pub returns-then-not-is_table : goal.returns-then-not-is_table
returns-then-not-is_table c = fault-1 c.args.words.now c.args.id c.args.flags.bits (sym c.is_table.ensures ∙ c.if-not-is_table.true)

pub returns-then-not-known : goal.returns-then-not-known
returns-then-not-known c =
    let a = c.args in
    fault-2 a.words.now a.id a.flags.bits (sym c.is_table.ensures ∙ c.if-not-is_table.false) (other c.known.ensures c.if-not-known.true)

pub returns-then-single_start : goal.returns-then-single_start
returns-then-single_start c =
    let a = c.args in
    fault-24 a.words.now a.id a.flags.bits (sym c.is_table.ensures ∙ c.if-not-is_table.false) (other c.known.ensures c.if-not-known.false)
    (sym c.single_start.ensures ∙ c.if-single_start.true)

pub bounds-words-1 : goal.bounds-words-1
bounds-words-1 c =
    let p = passes c.args.words.now (sym c.is_table.ensures ∙ c.if-not-is_table.false) in omega arith

pub has_id-requires : goal.has_id-requires
has_id-requires c =
    let p = passes c.args.words.now (sym c.is_table.ensures ∙ c.if-not-is_table.false) in omega arith

pub returns-then-has_id : goal.returns-then-has_id
returns-then-has_id c =
    let a = c.args in
    fault-3 a.words.now a.id a.flags.bits (sym c.is_table.ensures ∙ c.if-not-is_table.false) (other c.known.ensures c.if-not-known.false)
    (sym c.single_start.ensures ∙ c.if-single_start.false) (sym c.has_id.ensures ∙ c.if-has_id.true)

pub bounds-words-1-2 : goal.bounds-words-1-2
bounds-words-1-2 c =
    let p = passes c.args.words.now (sym c.is_table.ensures ∙ c.if-not-is_table.false) in omega arith

pub returns-then-words-ge-MAX_RULES : goal.returns-then-words-ge-MAX_RULES
returns-then-words-ge-MAX_RULES c =
    let a = c.args in
    fault-4 a.words.now a.id a.flags.bits (sym c.is_table.ensures ∙ c.if-not-is_table.false) (other c.known.ensures c.if-not-known.false)
    (sym c.single_start.ensures ∙ c.if-single_start.false) (sym c.has_id.ensures ∙ c.if-has_id.false) c.if-words-ge-MAX_RULES.true

pub returns : goal.returns
returns c =
    let a = c.args in
    fault-0 a.words.now a.id a.flags.bits (sym c.is_table.ensures ∙ c.if-not-is_table.false) (other c.known.ensures c.if-not-known.false)
    (sym c.single_start.ensures ∙ c.if-single_start.false) (sym c.has_id.ensures ∙ c.if-has_id.false) c.if-words-ge-MAX_RULES.false
