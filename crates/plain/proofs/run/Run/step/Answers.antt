-- `step` meets its contract: what the byte settles is what the definitions say, and there is room
-- for it.
use native.Mathlib.Omega.{arith}
use Rattle.plain.proofs.Runs.{taking, step-slots, step_is}
use Rattle.plain.proofs.run.Run.step.Goals as goal

pub both-count-requires : goal.both-count-requires
both-count-requires c =
    (step-slots c.requires.0 c.requires.1 c.inside-new.ensures (c.take_byte-ends.ensures (taking c.requires.0)), omega (arith, c.requires.0.within, c.requires.0.short))

pub returns : goal.returns
returns c =
    step_is c.requires.0 c.requires.1 c.inside-new.ensures (c.take_byte-ends.ensures (taking c.requires.0)) c.both-count.ensures
