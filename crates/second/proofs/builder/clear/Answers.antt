-- `second::builder::clear` meets its contract.
use native.Mathlib.Omega.{arith}
use Rattle.table.proofs.Over.{filled-part}
use Rattle.second.proofs.builder.clear.Goals as goal

pub returns : goal.returns
returns c = filled-part c.args.from c.args.to 0 c.args.second.now c.fill.new.self (omega arith) (omega arith) (c.fill.ensures.after (λ y e. e))
