-- `second::builder::reach` meets its contract: the step among the positions, and what waits.
use native.Mathlib.Omega.{arith}
use mathlib.Core.Path.{ap, ◌∙◌}
use mathlib.Core.List.{List}
use Prim.Native.Nat.{ℕ}
use Rattle.sets.specs.Set.{kept_below}
use Rattle.table.specs.Layout.{positions_of}
use Rattle.table.proofs.Test.{passes}
use Rattle.second.proofs.Gathering.{reach-is}
use Rattle.second.proofs.builder.reach.Goals as goal

pub bounds-words-2 : goal.bounds-words-2
bounds-words-2 c =
    omega (arith, (passes c.args.words.now c.requires).long)

pub held_after-requires : goal.held_after-requires
held_after-requires c =
    c.requires

pub pending_after-requires : goal.pending_after-requires
pending_after-requires c =
    c.requires

pub returns : goal.returns
returns c =
    let a = c.args in
    let t = a.words.now in
    reach-is t (passes t c.requires).long a.k a.e a.byte c.side_of-last.result c.side_of-last.ensures c.below-among.result c.step-after.result.live (c.below-among.ensures ∙ ap (λ (s : List ℕ). kept_below s (positions_of t)) c.full.ensures) c.step-after.ensures.live c.held_after.result c.held_after.ensures c.pending_after.result c.pending_after.ensures
