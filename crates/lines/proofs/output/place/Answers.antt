-- `lines::output::place` meets its contract: the bytes are copied where they fit.
use Rattle.std.proofs.Common.{arith}
use Rattle.lines.proofs.Placing.{placed-not, copied}
use Rattle.lines.proofs.output.place.Goals as goal

pub returns-then-out-at : goal.returns-then-out-at
returns-then-out-at c = placed-not _ _ (omega arith)

pub returns-then-out-at-2 : goal.returns-then-out-at-2
returns-then-out-at-2 c = placed-not _ _ (omega arith)

pub returns : goal.returns
returns c = copied _ _ _ _ _ (omega arith) (omega arith) c.copy_from_slice.ensures.after
