-- `carried::copy_word` meets its contract: each turn copies the start at the lowest digit that is
-- left.
use Rattle.carried.proofs.InPlace.{CopyLeft}
use Rattle.carried.proofs.copy_word.Given as goal

abbrev pub invariant-loop-k : goal.invariant-loop-k
invariant-loop-k l = CopyLeft l.word l.i l.from l.initial.to l.k-iterator.0 l.to
