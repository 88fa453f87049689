-- `steps::rows::line_ending` meets its contract: the digits of the rules that end before a newline
-- that is the last byte, without those of the rules that end before any newline.
use mathlib.Core.Path.{sym, ap, subst, ◌∙◌}
use Prim.Native.Nat.{ℕ, ◌<◌}
use native.Mathlib.Nat.{lt_trans}
use lib.Dec.{lit<}
use Rattle.kinds.specs.declared.Side.TheVariants.{Newline}
use Rattle.table.specs.Gaps.{between, before_last, last_gaps}
use Rattle.table.specs.Automaton.{automaton}
use Rattle.table.proofs.GapBounds.{between-inner, before_last-follow}
use Rattle.steps.specs.Step.{ends, ends_newly, rules_where}
use Rattle.steps.proofs.TableSets.{number-on, number-off, newly-word}
use Rattle.steps.proofs.rows.line_ending.Goals as goal

pub returns-then-words-lt-TABLE_WORDS : goal.returns-then-words-lt-TABLE_WORDS
returns-then-words-lt-TABLE_WORDS c =
    let a = c.args in
    let w = automaton a.words.now in
    sym (number-off a.words.now (rules_where w (ends_newly w (before_last a.before) a.live (between a.before Newline) a.live)) c.if-words-lt-TABLE_WORDS.true)

pub ending_at-at_line-requires : goal.ending_at-at_line-requires
ending_at-at_line-requires c =
    (c.if-words-lt-TABLE_WORDS.false, subst (λ (g : ℕ). g < last_gaps) (sym c.before_last.ensures) (lt_trans (before_last-follow c.args.before) (lit< tt)))

pub ending_at-at_newline-requires : goal.ending_at-at_newline-requires
ending_at-at_newline-requires c =
    (c.if-words-lt-TABLE_WORDS.false, subst (λ (g : ℕ). g < last_gaps) (sym c.between.ensures) (lt_trans (between-inner c.args.before Newline) (lit< tt)))

pub returns : goal.returns
returns c =
    let a = c.args in
    let w = automaton a.words.now in
    newly-word w (before_last a.before) a.live (between a.before Newline) a.live c.ending_at-at_line.result c.ending_at-at_newline.result
    (c.ending_at-at_line.ensures ∙ ap (λ (g : ℕ). rules_where w (ends w g a.live)) c.before_last.ensures)
    (c.ending_at-at_newline.ensures ∙ ap (λ (g : ℕ). rules_where w (ends w g a.live)) c.between.ensures)
    ∙ sym (number-on a.words.now (rules_where w (ends_newly w (before_last a.before) a.live (between a.before Newline) a.live)) c.if-words-lt-TABLE_WORDS.false)
