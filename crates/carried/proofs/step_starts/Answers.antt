-- `carried::step_starts` meets its contract: this offset is put in for the positions after
-- the byte, and the starts of those before it are carried along.
use mathlib.Core.Path.{sym, ap, subst, ◌∙◌}
use Prim.Native.Nat.{ℕ, ◌<◌}
use lib.ListN.{replicate}
use Rattle.table.specs.Gaps.{follow_gaps}
use Rattle.table.specs.Automaton.{automaton}
use Rattle.table.proofs.GapBounds.{gap_of-follow}
use Rattle.steps.specs.Step.{stepped_starts}
use Rattle.steps.proofs.Bounds.{follow_rows, follow-offset-fits, follow-fits, follow-inside}
use Rattle.steps.proofs.Carrying.{carried, list_on_lem, list-off, zeros-length, zeros-at}
use Rattle.carried.proofs.step_starts.Goals as goal

pub returns-then-words-lt-TABLE_WORDS : goal.returns-then-words-lt-TABLE_WORDS
returns-then-words-lt-TABLE_WORDS c =
    let a = c.args in
    let t = a.words.now in
    list-off t 256 (stepped_starts (automaton t) a.line a.before a.after a.live a.starts.now a.next a.taken) (replicate 256 0) c.if-words-lt-TABLE_WORDS.true (zeros-length 256) (λ q lt. zeros-at 256 q)

pub overflow_mul-rows : goal.overflow_mul-rows
overflow_mul-rows c =
    let a = c.args in
    follow-offset-fits c.gap_of.result (subst (λ (g : ℕ). g < follow_gaps) (sym c.gap_of.ensures) (gap_of-follow a.line a.before a.after))

pub overflow_add-rows : goal.overflow_add-rows
overflow_add-rows c =
    let a = c.args in
    follow-fits c.gap_of.result (subst (λ (g : ℕ). g < follow_gaps) (sym c.gap_of.ensures) (gap_of-follow a.line a.before a.after))

pub follow-requires : goal.follow-requires
follow-requires c =
    let a = c.args in
    (c.if-words-lt-TABLE_WORDS.false, follow-inside c.gap_of.result (subst (λ (g : ℕ). g < follow_gaps) (sym c.gap_of.ensures) (gap_of-follow a.line a.before a.after)))

pub returns : goal.returns
returns c =
    let a = c.args in
    let t = a.words.now in
    carried t a.line a.before a.after a.live a.starts.now a.next a.taken (replicate 256 0) _ _ _ (ap follow_rows c.gap_of.ensures) (zeros-length 256)
    (λ q lt. zeros-at 256 q) c.put.ensures c.follow.ensures
    ∙ list_on_lem t 256 (stepped_starts (automaton t) a.line a.before a.after a.live a.starts.now a.next a.taken) c.if-words-lt-TABLE_WORDS.false
