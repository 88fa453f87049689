-- `sets::empty` meets its contract: no digit of the four words is set.
use Rattle.sets.proofs.Laws.{empty-words}
use Rattle.sets.proofs.empty.Goals as goal

pub returns : goal.returns
returns c = empty-words
