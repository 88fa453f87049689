-- `classes::classes::settle` meets its contract: the other case is added first, and then the set is
-- turned or not.
use Rattle.classes.specs.Class.{settled}
use Rattle.classes.proofs.classes.settle.Goals as goal

pub returns-then-negated : goal.returns-then-negated
unfolding settled
returns-then-negated c = rw (← c.cased-all.ensures, c.if-negated.true) c.complement.ensures

pub returns : goal.returns
unfolding settled
returns c = rw (← c.cased-all.ensures, c.if-negated.false)
