-- `steps::rows::closing` meets its contract: the digits of the rules that end at the stream's end,
-- without those of the rules that end whatever follows.
use mathlib.Core.Path.{sym, ap₂, subst, ◌∙◌}
use mathlib.Core.List.{List}
use Prim.Native.Nat.{ℕ, ◌<◌}
use lib.Dec.{lit<}
use Rattle.sets.specs.Set.{union_of}
use Rattle.table.specs.Gaps.{at_the_end, unsettled, last_gaps}
use Rattle.table.specs.Automaton.{automaton}
use Rattle.table.proofs.GapBounds.{at_end-last}
use Rattle.steps.specs.Step.{ends, ends_newly, rules_where}
use Rattle.steps.proofs.TableSets.{number-on, number-off, newly-word}
use Rattle.steps.proofs.rows.closing.Goals as goal

pub returns-then-words-lt-TABLE_WORDS : goal.returns-then-words-lt-TABLE_WORDS
returns-then-words-lt-TABLE_WORDS c =
    let a = c.args in
    let w = automaton a.words.now in
    sym (number-off a.words.now (rules_where w (ends_newly w (at_the_end a.before) (union_of a.live a.held) unsettled a.live)) c.if-words-lt-TABLE_WORDS.true)

pub ending_at-at_end-requires : goal.ending_at-at_end-requires
ending_at-at_end-requires c =
    (c.if-words-lt-TABLE_WORDS.false, subst (λ (g : ℕ). g < last_gaps) (sym c.at_end.ensures) (at_end-last c.args.before))

pub ending_at-settled-requires : goal.ending_at-settled-requires
ending_at-settled-requires c =
    (c.if-words-lt-TABLE_WORDS.false, lit< tt)

pub returns : goal.returns
returns c =
    let a = c.args in
    let w = automaton a.words.now in
    newly-word w (at_the_end a.before) (union_of a.live a.held) unsettled a.live c.ending_at-at_end.result c.ending_at-settled.result
    (c.ending_at-at_end.ensures ∙ ap₂ (λ (g : ℕ) (s : List ℕ). rules_where w (ends w g s)) c.at_end.ensures c.union.ensures) c.ending_at-settled.ensures
    ∙ sym (number-on a.words.now (rules_where w (ends_newly w (at_the_end a.before) (union_of a.live a.held) unsettled a.live)) c.if-words-lt-TABLE_WORDS.false)
