-- `fragments::with_if` meets its contract, by the test.
use Rattle.automaton.proofs.fragments.with_if.Goals as goal

pub returns-then-b : goal.returns-then-b
returns-then-b c = rw c.if-b.true c.union.ensures

pub returns-else-b : goal.returns-else-b
returns-else-b c = rw c.if-b.false
