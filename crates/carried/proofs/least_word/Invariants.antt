-- `carried::least_word` meets its contract: each turn takes in the start of the lowest position that
-- is left, if it has the owner.
use Rattle.steps.proofs.Carrying.{LeastLeft}
use Rattle.carried.proofs.least_word.Given as goal

abbrev pub invariant-loop-k : goal.invariant-loop-k
invariant-loop-k l = LeastLeft l.words l.owner l.starts l.word l.i l.initial.least l.k-iterator.0 l.least
