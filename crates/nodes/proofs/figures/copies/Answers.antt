-- `copies` meets its contract: by whether the repeat is bounded.
use Rattle.meaning.specs.Count.{copied}
use Rattle.nodes.proofs.figures.copies.Goals as goal

pub returns-in-Some : goal.returns-in-Some
unfolding copied
returns-in-Some c = rw c.in-Some.is

pub returns-in-None : goal.returns-in-None
unfolding copied
returns-in-None c = rw c.in-None.is c.max.ensures
