-- `pattern::bounds::size_fault` meets its contract: each return has passed the tests before it.
use borrow.Author.Tests.{lt-ltb, le-ltb}
use Rattle.pattern.specs.Windows.{empty_window, size_fault}
use Rattle.pattern.proofs.bounds.size_fault.Goals as goal

pub returns-then-length-gt-LONGEST : goal.returns-then-length-gt-LONGEST
unfolding size_fault
returns-then-length-gt-LONGEST c = rw (lt-ltb _ _ c.if-length-gt-LONGEST.true)

pub returns-then-bounds : goal.returns-then-bounds
unfolding size_fault empty_window
returns-then-bounds c = rw (le-ltb _ _ c.if-length-gt-LONGEST.false, lt-ltb _ _ c.if-bounds.true)

pub returns : goal.returns
unfolding size_fault empty_window
returns c = rw (le-ltb _ _ c.if-length-gt-LONGEST.false, le-ltb _ _ c.if-bounds.false)
