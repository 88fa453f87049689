-- `atoms::cased` meets its contract: it asks what the definition asks.
use Rattle.atoms.proofs.cased.Goals as goal

pub returns-then-caseless : goal.returns-then-caseless
returns-then-caseless c = rw c.if-caseless.true c.close_case.ensures

pub returns : goal.returns
returns c = rw c.if-caseless.false
