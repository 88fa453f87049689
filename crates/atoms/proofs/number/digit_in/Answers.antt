-- `atoms::number::digit_in` meets its contract: it asks what the definition asks.
use Rattle.std.proofs.Common.{lt-ltb, le-ltb}
use Rattle.atoms.proofs.number.digit_in.Goals as goal

pub returns-then-digit-base : goal.returns-then-digit-base
returns-then-digit-base c = rw (← c.digit_of-digit.ensures, lt-ltb _ _ c.if-digit-base.true)

pub returns-else-digit-base : goal.returns-else-digit-base
returns-else-digit-base c = rw (← c.digit_of-digit.ensures, le-ltb _ _ c.if-digit-base.false)
