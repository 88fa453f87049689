-- `steps::line::line_step` meets its contract: the first positions, joined with what follows each
-- live one, are met with the byte's row and kept below the count.
use mathlib.Core.Bool.{true}
use mathlib.Core.Path.{sym, ap, ap₂, subst, ◌∙◌}
use mathlib.Core.List.{List}
use Prim.Native.Nat.{ℕ, ◌<◌}
use Rattle.sets.specs.Set.{set_of, intersection_of, kept_below}
use Rattle.table.specs.Gaps.{first_gaps, follow_gaps}
use Rattle.table.specs.Automaton.{automaton, starts}
use Rattle.table.proofs.GapBounds.{gap_of-follow, first_gap-first}
use Rattle.steps.specs.Step.{stepped}
use Rattle.steps.proofs.Bounds.{follow_rows, follow-offset-fits, follow-fits, follow-inside}
use Rattle.steps.proofs.Steps.{met-words, stepped-below}
use Rattle.steps.proofs.TableSets.{set_on_lem, set-off}
use Rattle.steps.proofs.line.line_step.Goals as goal

pub returns-then-words-lt-TABLE_WORDS : goal.returns-then-words-lt-TABLE_WORDS
returns-then-words-lt-TABLE_WORDS c =
    let a = c.args in
    let t = a.words.now in
    c.empty.ensures ∙ sym (set-off t (stepped (automaton t) true a.before a.after a.positions a.live a.taken a.byte) c.if-words-lt-TABLE_WORDS.true)

pub firsts-first-requires : goal.firsts-first-requires
firsts-first-requires c =
    let a = c.args in
    (c.if-words-lt-TABLE_WORDS.false, subst (λ (g : ℕ). g < first_gaps) (sym c.first_gap.ensures) (first_gap-first true a.taken a.before a.after))

-- the rows of the gap are inside the table
pub overflow_mul-rows : goal.overflow_mul-rows
overflow_mul-rows c =
    let a = c.args in
    follow-offset-fits c.gap_of.result (subst (λ (g : ℕ). g < follow_gaps) (sym c.gap_of.ensures) (gap_of-follow true a.before a.after))

pub overflow_add-rows : goal.overflow_add-rows
overflow_add-rows c =
    let a = c.args in
    follow-fits c.gap_of.result (subst (λ (g : ℕ). g < follow_gaps) (sym c.gap_of.ensures) (gap_of-follow true a.before a.after))

pub line_walk-reached-requires : goal.line_walk-reached-requires
line_walk-reached-requires c =
    let a = c.args in
    (c.if-words-lt-TABLE_WORDS.false, follow-inside c.gap_of.result (subst (λ (g : ℕ). g < follow_gaps) (sym c.gap_of.ensures) (gap_of-follow true a.before a.after)))

pub returns : goal.returns
returns c =
    let a = c.args in
    let t = a.words.now in
    let w = automaton t in
    let first = c.firsts-first.ensures ∙ ap (λ (g : ℕ). set_of (starts w g a.byte)) c.first_gap.ensures in
    let met = c.intersection.ensures ∙ ap₂ intersection_of c.line_walk-reached.ensures (c.takers.ensures ∙ set_on_lem t (set_of (w.takes a.byte)) c.if-words-lt-TABLE_WORDS.false) in
    c.below.ensures ∙ ap (λ (s : List ℕ). kept_below s a.positions) met
    ∙ ap (λ (s : List ℕ). kept_below s a.positions)
    (met-words t true a.before a.after a.live a.taken c.firsts-first.result _ a.byte first (ap follow_rows c.gap_of.ensures))
    ∙ stepped-below w true a.before a.after a.positions a.live a.taken a.byte
    ∙ sym (set_on_lem t (stepped w true a.before a.after a.positions a.live a.taken a.byte) c.if-words-lt-TABLE_WORDS.false)
