-- `rules::write::put_counts` meets its contract: the two counts are written.
use native.Mathlib.Omega.{arith}
use Rattle.rules.specs.Invariants.{counts_put}
use Rattle.rules.proofs.Blocks.{two-put}
use Rattle.rules.proofs.write.put_counts.Goals as goal

pub returns : goal.returns
unfolding counts_put
returns c = two-put 1 c.args.rules c.args.positions c.args.words.now (omega arith)
