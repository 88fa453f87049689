-- `atoms::fault::lower` meets its contract: it asks what the definition asks, of the numbers of two
-- faults, and gives that with the smaller.
use Rattle.std.proofs.Common.{arith, sym}
use borrow.Author.Tests.{eq-eqb}
use Rattle.atoms.specs.Fault.{lower}
use Rattle.atoms.proofs.Raws.{lower-none, lower-is-first, lower-is-second}
use Rattle.atoms.proofs.fault.lower.Goals as goal

pub returns-in-0-default : goal.returns-in-0-default
unfolding lower
returns-in-0-default g c = rw (← c.number.ensures, eq-eqb c.number.result 0 c.in-0-default.is-0)

pub returns-in_default-eq0 : goal.returns-in_default-eq0
returns-in_default-eq0 g c = rw (← c.number.ensures, ← c.number-2.ensures, c.in_default-eq0.is-1) (sym (lower-none c.number.result))

pub returns-then-a-b : goal.returns-then-a-b
returns-then-a-b g c =
    rw (← c.number.ensures, ← c.number-2.ensures)
    (sym (lower-is-first c.number.result c.number-2.result c.in_default.is-0.1 c.in_default.is-1.1 c.if-a-b.true))

pub returns-else-a-b : goal.returns-else-a-b
returns-else-a-b g c =
    rw (← c.number.ensures, ← c.number-2.ensures)
    (sym (lower-is-second c.number.result c.number-2.result c.in_default.is-0.1 c.in_default.is-1.1 (omega arith)))
