-- `rules::write::put_set` meets its contract: the four words of the set are copied.
use native.Mathlib.Omega.{arith}
use Rattle.table.proofs.Over.{copied-part}
use Rattle.rules.proofs.write.put_set.Goals as goal

pub returns : goal.returns
returns c = copied-part c.args.at 4 c.args.words.now c.args.set _ c.requires (omega arith) c.copy_from_slice.ensures.after
