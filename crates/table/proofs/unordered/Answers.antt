-- `table::unordered` meets its contract: the difference wraps where the id is not below the next,
-- and is then large.
use Rattle.std.proofs.Common.{refl, arith}
use Rattle.table.proofs.Ids.{told-apart}
use Rattle.table.proofs.unordered.Goals as goal

pub returns : goal.returns
returns c = told-apart c.args.id c.args.next _ _ c.ranges.id.fits c.ranges.next.fits (omega arith) refl (omega arith)
