-- `step` meets its contract. The invariant: what is left below row j makes of the present marks
-- what all makes of the first ones.
use mathlib.Core.Path.{refl, sym, ◌∙◌}
use Prim.Native.Nat.{◌-◌}
use native.Mathlib.Omega.{arith}
use lib.ListN.{length-replicate, get_or-replicate}
use Rattle.marks.specs.Invariants.{hits_of}
use Rattle.marks.proofs.Passes.{remains-all, remains-turn, remains-none, turned-length}
use Rattle.marks.proofs.moves.step.Goals as goal

pub loop-j-init : goal.loop-j-init
loop-j-init c =
    let v = c.args in (
      omega arith,
      length-replicate 512 v.come,
      refl,
      λ z. refl,
      remains-all v.parts.now v.n v.g (hits_of v.a.now v.byte) v.marks.now v.come _ (λ m e. get_or-replicate 512 m v.come 0 (omega (arith, c.requires.low))),
    )

pub slice_bounds-turn-end : goal.slice_bounds-turn-end
slice_bounds-turn-end c =
    let c-loop = c.loop-j in
    sym c-loop.invariant.1

pub turn-requires : goal.turn-requires
turn-requires c =
    (omega (arith, c.requires.low), c.requires.gap)

pub loop-j-preserved : goal.loop-j-preserved
loop-j-preserved c =
    let v = c.args in
    let inv = c.loop-j.invariant in
    let long = turned-length v.parts.now (c.loop-j.j - 1) c.turn.ensures in (
      omega arith,
      long.1 ∙ inv.1,
      long.0 ∙ inv.2,
      λ z. absurd (omega arith),
      remains-turn v.parts.now v.n v.g (hits_of v.a.now v.byte) v.marks.now v.come v.cores.now v.ends.now c.requires.looked
          (c.loop-j.j - 1) c.loop-j.j c.loop-j.comes _ c.loop-j.marks _ (omega arith) (omega arith) (omega (arith, inv.1, c.requires.low)) c.turn.ensures.marks c.turn.ensures.comes inv.4,
    )

pub returns : goal.returns
returns c =
    let v = c.args in
    let inv = c.loop-j.invariant in
    (inv.3, remains-none v.parts.now v.n v.g (hits_of v.a.now v.byte) v.marks.now v.come c.loop-j.comes c.loop-j.marks c.loop-j.j (omega arith) inv.4)
