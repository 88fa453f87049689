-- `steps::rows::late_ending` meets its contract: the digits of the rules that end at the gap with a
-- position that waits for the next byte, without those of the rules that end whatever follows.
use mathlib.Core.Path.{sym, ap, ap₂, subst, ◌∙◌}
use mathlib.Core.List.{List}
use Prim.Native.Nat.{ℕ, ◌<◌}
use native.Mathlib.Nat.{lt_trans}
use lib.Dec.{lit<}
use Rattle.sets.specs.Set.{intersection_of}
use Rattle.table.specs.Gaps.{between, unsettled, last_gaps}
use Rattle.table.specs.Automaton.{automaton}
use Rattle.table.proofs.GapBounds.{between-inner}
use Rattle.steps.specs.Step.{ends, ends_newly, late_in, rules_where}
use Rattle.steps.proofs.TableSets.{number-on, number-off, newly-word}
use Rattle.steps.proofs.rows.late_ending.Goals as goal

pub returns-then-words-lt-TABLE_WORDS : goal.returns-then-words-lt-TABLE_WORDS
returns-then-words-lt-TABLE_WORDS c =
    let a = c.args in
    let w = automaton a.words.now in
    sym (number-off a.words.now (rules_where w (ends_newly w (between a.before a.after) (late_in w a.live) unsettled a.live)) c.if-words-lt-TABLE_WORDS.true)

pub late_row-requires : goal.late_row-requires
late_row-requires c = c.if-words-lt-TABLE_WORDS.false

pub ending_at-known-requires : goal.ending_at-known-requires
ending_at-known-requires c =
    let a = c.args in
    (c.if-words-lt-TABLE_WORDS.false, subst (λ (g : ℕ). g < last_gaps) (sym c.between.ensures) (lt_trans (between-inner a.before a.after) (lit< tt)))

pub ending_at-settled-requires : goal.ending_at-settled-requires
ending_at-settled-requires c = (c.if-words-lt-TABLE_WORDS.false, lit< tt)

pub returns : goal.returns
returns c =
    let a = c.args in
    let w = automaton a.words.now in
    let late = c.intersection-late in
    newly-word w (between a.before a.after) (late_in w a.live) unsettled a.live c.ending_at-known.result c.ending_at-settled.result
    (c.ending_at-known.ensures
    ∙ ap₂ (λ (g : ℕ) (s : List ℕ). rules_where w (ends w g s)) c.between.ensures (late.ensures ∙ ap (intersection_of a.live) c.late_row.ensures))
    c.ending_at-settled.ensures
    ∙ sym (number-on a.words.now (rules_where w (ends_newly w (between a.before a.after) (late_in w a.live) unsettled a.live)) c.if-words-lt-TABLE_WORDS.false)
