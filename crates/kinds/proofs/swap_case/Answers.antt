-- `kinds::swap_case` meets its contract: the entry's two bits tell the letter's case, and a
-- letter's range keeps the sum and the difference in a byte.
use mathlib.Core.Path.{sym}
use native.Mathlib.Omega.{arith}
use Rattle.kinds.proofs.Bits.{marked, unmarked}
use Rattle.kinds.proofs.Case.{lower-range, upper-range, of-lower, of-upper, of_other}
use Rattle.kinds.proofs.swap_case.Goals as goal

pub overflow_sub-result : goal.overflow_sub-result
overflow_sub-result c = omega (arith, lower-range _ (marked _ _ 5 c.requires c.if-kinds-ne0.true))

pub returns-then-kinds-ne0 : goal.returns-then-kinds-ne0
returns-then-kinds-ne0 c = sym (of-lower _ (marked _ _ 5 c.requires c.if-kinds-ne0.true))

pub overflow_add-result : goal.overflow_add-result
overflow_add-result c = omega (arith, upper-range _ (marked _ _ 6 c.requires c.if-kinds-ne0-2.true))

pub returns-then-kinds-ne0-2 : goal.returns-then-kinds-ne0-2
returns-then-kinds-ne0-2 c =
    sym (of-upper _ (unmarked _ _ 5 c.requires c.if-kinds-ne0.false) (marked _ _ 6 c.requires c.if-kinds-ne0-2.true))

pub returns : goal.returns
returns c = sym (of_other _ (unmarked _ _ 5 c.requires c.if-kinds-ne0.false) (unmarked _ _ 6 c.requires c.if-kinds-ne0-2.false))
