-- `card::bytes::number_at` meets its contract: the loop's invariant is that x is the number in the
-- bytes from j on.
use Rattle.card.proofs.Numbers.{Taken}
use Rattle.card.proofs.bytes.number_at.Given as goal

abbrev pub invariant-loop-j : goal.invariant-loop-j
invariant-loop-j l = Taken l.bytes l.at l.n l.x l.j
