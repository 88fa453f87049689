-- `flag_fault` meets its contract: the two checks in order.
use borrow.Author.Tests.{eq-eqb, ne_eqb}
use Rattle.plain.specs.Invariants.{flag_fault}
use Rattle.plain.proofs.flag_fault.Goals as goal

pub returns-then-flags : goal.returns-then-flags
unfolding flag_fault
returns-then-flags c = rw (ne_eqb _ _ c.if-flags.true)

pub returns-then-flags-2 : goal.returns-then-flags-2
unfolding flag_fault
returns-then-flags-2 c = rw (eq-eqb _ _ c.if-flags.false, c.if-flags-2.true)

pub returns : goal.returns
unfolding flag_fault
returns c = rw (eq-eqb _ _ c.if-flags.false, c.if-flags-2.false)
