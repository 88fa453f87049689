-- The side that a word names: 1 and 2 are asked for, and what is left is `Other`.
use Rattle.std.proofs.Common.{arith}
use Rattle.std.proofs.lemmas.Grind.{common_steps}
use Rattle.kinds.specs.Side.{side_in}
use Rattle.kinds.proofs.SideFromU64.from.Goals as goal

pub returns-in-1 : goal.returns-in-1
unfolding side_in
returns-in-1 c = rw c.in-1.is

pub returns-in-2 : goal.returns-in-2
unfolding side_in
returns-in-2 c = rw c.in-2.is

pub returns-in_default : goal.returns-in_default
unfolding side_in
returns-in_default c = grind (arith, common_steps)
