-- `carried::put_word` meets its contract: each turn puts the start in at the lowest digit that is
-- left.
use Rattle.steps.proofs.Carrying.{PutLeft}
use Rattle.carried.proofs.put_word.Given as goal

abbrev pub invariant-loop-k : goal.invariant-loop-k
invariant-loop-k l = PutLeft l.word l.i l.keep l.start l.initial.starts l.k-iterator.0 l.starts
