-- `first_fault` meets its contract: the flags, then the sizes.
use native.Mathlib.Omega.{arith}
use borrow.Author.Tests.{ne_eqb}
use Rattle.std.proofs.lemmas.Result.{err_from_is_err_and}
use Rattle.refusals.specs.Refusal.{number_of}
use Rattle.refusals.proofs.Laws.{number-above}
use Rattle.plain.specs.Invariants.{first_fault}
use Rattle.plain.proofs.first_fault.Goals as goal

pub returns-in_err-flag_fault : goal.returns-in_err-flag_fault
unfolding first_fault
returns-in_err-flag_fault c =
    let p = err_from_is_err_and c.from_residual.result c.from_residual.ensures.1 in
    let some = number-above c.in_err-flag_fault.field-0.0 in
    rw (p.1, p.2, ← c.in_err-flag_fault.ensures, ne_eqb (number_of c.in_err-flag_fault.field-0.0) 0 (λ z. omega arith))

pub returns : goal.returns
unfolding first_fault
returns c = rw (← c.in_ok-flag_fault.ensures) c.size_fault.ensures
