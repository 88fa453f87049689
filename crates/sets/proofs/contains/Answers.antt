-- `sets::contains` meets its contract: it reads the one digit.
use mathlib.Core.Path.{ap}
use Prim.Native.Nat.{ℕ, ◌/◌, ◌%◌, ◌^◌}
use lib.Bits.{and_mask}
use lib.Dec.{eqb}
use lib.ListN.{get_or}
use Rattle.sets.specs.Set.{has, on}
use Rattle.sets.proofs.contains.Goals as goal

pub returns : goal.returns
unfolding has on
returns c = ap (λ (x : ℕ). eqb x 1) (and_mask (get_or c.args.s (c.args.b / 64) 0 / 2 ^ (c.args.b % 64)) 1)
