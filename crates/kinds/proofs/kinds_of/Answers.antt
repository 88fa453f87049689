-- `kinds::kinds_of` meets its contract: the table's rule at the byte.
use native.Mathlib.Omega.{arith}
use Rattle.kinds.specs.Invariants.{Ruled}
use Rattle.kinds.proofs.kinds_of.Goals as goal

pub returns : goal.returns
unfolding Ruled
returns c = c.kind_table-kinds.ensures c.args.b (omega arith)
