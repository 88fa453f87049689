-- `atoms::number::digits` meets its contract. The invariant: the bytes before the place are digits,
-- and make the value, cut to the cap.
use Rattle.atoms.proofs.Digits.{Read}
use Rattle.atoms.proofs.number.digits.Given as goal

abbrev pub invariant-loop-size : goal.invariant-loop-size
invariant-loop-size l = Read l.base l.s l.size l.value
