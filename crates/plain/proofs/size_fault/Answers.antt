-- `size_fault` meets its contract: the checks of the pattern and the bounds, then of the log, then
-- of the space.
use native.Mathlib.Omega.{arith}
use Rattle.std.proofs.lemmas.Result.{err_from_is_err_and}
use borrow.Author.Tests.{lt-ltb, le-ltb, ne_eqb}
use Rattle.refusals.specs.Refusal.{number_of}
use Rattle.refusals.proofs.Laws.{number-above}
use Rattle.plain.specs.Invariants.{size_fault}
use Rattle.plain.proofs.size_fault.Goals as goal

pub returns-in_err-size_fault : goal.returns-in_err-size_fault
unfolding size_fault
returns-in_err-size_fault c =
    let p = err_from_is_err_and c.from_residual.result c.from_residual.ensures.1 in
    let some = number-above c.in_err-size_fault.field-0.0 in
    rw (p.1, p.2, ← c.in_err-size_fault.ensures, ne_eqb (number_of c.in_err-size_fault.field-0.0) 0 (λ z. omega arith))

pub returns-then-log-gt-LONGEST_LOG : goal.returns-then-log-gt-LONGEST_LOG
unfolding size_fault
returns-then-log-gt-LONGEST_LOG c = rw (← c.in_ok-size_fault.ensures, lt-ltb _ _ c.if-log-gt-LONGEST_LOG.true)

pub returns-then-space-lt-SPACE : goal.returns-then-space-lt-SPACE
unfolding size_fault
returns-then-space-lt-SPACE c =
    rw (← c.in_ok-size_fault.ensures, le-ltb _ _ c.if-log-gt-LONGEST_LOG.false, lt-ltb _ _ c.if-space-lt-SPACE.true)

pub returns : goal.returns
unfolding size_fault
returns c =
    rw (← c.in_ok-size_fault.ensures, le-ltb _ _ c.if-log-gt-LONGEST_LOG.false, le-ltb _ _ c.if-space-lt-SPACE.false)
