-- `steps::line::line_walk` meets its contract: each turn joins the rows of the positions of one
-- word of the live set.
use mathlib.Core.Path.{◌≡◌}
use Prim.Native.Nat.{◌*◌}
use Rattle.sets.specs.Set.{has}
use Rattle.steps.proofs.Steps.{reached}
use Rattle.steps.proofs.line.line_walk.Given as goal

abbrev pub invariant-loop-i : goal.invariant-loop-i
invariant-loop-i l = l.set ≡ reached l.words l.rows l.live (has l.initial.set) (l.i * 64)
