-- `sets::full` meets its contract: every digit of the four words is set.
use Rattle.sets.proofs.Laws.{full-words}
use Rattle.sets.proofs.full.Goals as goal

pub returns : goal.returns
returns c = full-words
