-- `tokens::option::lettered` meets its contract: it asks what the definition asks.
use Rattle.tokens.proofs.option.lettered.Goals as goal

pub returns-then-any : goal.returns-then-any
returns-then-any c = rw c.if-any.true c.plain.ensures

pub returns : goal.returns
returns c = rw c.if-any.false c.refused.ensures
