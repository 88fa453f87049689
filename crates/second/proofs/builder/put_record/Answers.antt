-- `second::builder::put_record` meets its contract.
use native.Mathlib.Omega.{arith}
use Rattle.table.proofs.Over.{copied-part}
use Rattle.second.proofs.builder.put_record.Goals as goal

pub returns : goal.returns
returns c = copied-part c.args.at 16 c.args.second.now c.args.row c.copy_from_slice.new.self (omega arith) (omega arith) c.copy_from_slice.ensures.after
