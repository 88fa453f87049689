-- `sets::insert_range` meets its contract: the numbers from lo on and below hi + 1 are joined to s.
use mathlib.Core.Path.{◌≡◌, ap, ◌∙◌}
use mathlib.Core.List.{List}
use Prim.Native.Nat.{ℕ, ◌+◌}
use Rattle.sets.specs.Set.{full_set, union_of, complement_of, kept_below}
use Rattle.sets.proofs.Laws.{range-words}
use Rattle.sets.proofs.insert_range.Goals as goal

pub returns : goal.returns
returns c =
    let start = c.before.before.before.before.before in
    let s = start.args.s in
    let lo = start.args.lo in
    let hi = start.args.hi in
    let from = c.complement-from in
    let low = c.below in
    let low-is : low.result ≡ kept_below full_set lo = low.ensures ∙ ap (λ (t : List ℕ). kept_below t lo) c.full.ensures in
    let from_is : from.result ≡ complement_of (kept_below full_set lo) = from.ensures ∙ ap complement_of low-is in
    let kept : c.below-2.result ≡ kept_below from.result (hi + 1) = c.below-2.ensures in
    c.union.ensures ∙ ap (union_of s) (kept ∙ ap (λ (t : List ℕ). kept_below t (hi + 1)) from_is) ∙ range-words s lo hi
