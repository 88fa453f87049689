-- `atoms::escape::flip_64` meets its contract: it asks what the definition asks.
use borrow.Author.Tests.{le-leb, lt-leb}
use Rattle.atoms.specs.Escape.{flipped64}
use Rattle.atoms.proofs.escape.flip_64.Goals as goal

pub returns-then-x-ge64 : goal.returns-then-x-ge64
unfolding flipped64
returns-then-x-ge64 c = rw (le-leb 64 _ c.if-x-ge64.true)

pub returns-else-x-ge64 : goal.returns-else-x-ge64
unfolding flipped64
returns-else-x-ge64 c = rw (lt-leb 64 _ c.if-x-ge64.false)
