-- `only` meets its contract: by the test.
use Rattle.marks.specs.Marks.{when}
use Rattle.marks.proofs.starts.only.Goals as goal

pub returns-then-b : goal.returns-then-b
unfolding when
returns-then-b c = rw c.if-b.true

pub returns-else-b : goal.returns-else-b
unfolding when
returns-else-b c = rw c.if-b.false
