-- `carried::carry_starts` meets its contract: the new starts are put together in the spare
-- list, and take the place of the old ones (`in_place`).
use mathlib.Core.Path.{◌≡◌, sym, ap, subst}
use mathlib.Core.Bool.{false}
use Prim.Native.Nat.{ℕ, ◌<◌}
use Rattle.table.specs.Gaps.{follow_gaps, gap_of}
use Rattle.kinds.specs.declared.Side.{Side}
use Rattle.table.proofs.GapBounds.{gap_of-follow}
use Rattle.steps.proofs.Bounds.{follow_rows, follow-offset-fits, follow-fits, follow-inside}
use Rattle.carried.proofs.InPlace.{in_place, in-place-off}
use Rattle.carried.proofs.carry_starts.Goals as goal

pub returns-then-words-lt-TABLE_WORDS : goal.returns-then-words-lt-TABLE_WORDS
returns-then-words-lt-TABLE_WORDS c =
    let a = c.args in
    in-place-off a.words.now a.before a.after a.live a.keeping a.next a.taken a.starts.now a.spare.now _
    c.if-words-lt-TABLE_WORDS.true c.put.ensures

-- the gap has rows
gap-inside : (g : ℕ) (before after : Side) → g ≡ gap_of false before after → g < follow_gaps
gap-inside g before after e = subst (λ (g : ℕ). g < follow_gaps) (sym e) (gap_of-follow false before after)

pub overflow_mul-rows : goal.overflow_mul-rows
overflow_mul-rows c = follow-offset-fits c.gap_of.result (gap-inside _ c.args.before c.args.after c.gap_of.ensures)

pub overflow_add-rows : goal.overflow_add-rows
overflow_add-rows c = follow-fits c.gap_of.result (gap-inside _ c.args.before c.args.after c.gap_of.ensures)

pub follow-requires : goal.follow-requires
follow-requires c =
    (c.if-words-lt-TABLE_WORDS.false, follow-inside c.gap_of.result (gap-inside _ c.args.before c.args.after c.gap_of.ensures))

pub returns : goal.returns
returns c =
    let a = c.args in
    in_place a.words.now a.before a.after a.live a.keeping a.next a.taken a.starts.now a.spare.now _ _ _ _ _ _
    (ap follow_rows c.gap_of.ensures) c.if-words-lt-TABLE_WORDS.false c.put-2.ensures c.follow.ensures
    c.put-3.ensures c.copy.ensures c.put-4.ensures
