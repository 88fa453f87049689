-- `pass` meets its contract: what can end before the byte, the move, what can end behind it.
use mathlib.Core.Path.{◌∙◌}
use native.Mathlib.Omega.{arith}
use lib.ListN.{length-replicate}
use Rattle.marks.specs.Marks.{none}
use Rattle.marks.proofs.Passes.{took}
use Rattle.marks.proofs.byte.pass.Goals as goal

pub step-requires : goal.step-requires
step-requires c =
    record { low = c.requires.1; gap = c.inner-inner.ensures.low; looked = c.look.ensures.looked (length-replicate 512 none) (length-replicate 512 none) }

pub look-requires-2 : goal.look-requires-2
look-requires-2 c =
    (c.requires.1, c.outer-outer.ensures.low)

pub returns : goal.returns
returns c =
    λ h. took c.args.log.now c.args.k c.args.last _ _ _ _ _ _ h.0 c.inner-inner.ensures c.outer-outer.ensures (omega (arith, c.requires.0, h.2)) (c.look.ensures.looked (length-replicate 512 none) (length-replicate 512 none)) c.top-late.ensures c.step.ensures (c.look-2.ensures.looked (c.look.ensures.cores ∙ length-replicate 512 none) (c.look.ensures.ends ∙ length-replicate 512 none)) c.top-own.ensures
