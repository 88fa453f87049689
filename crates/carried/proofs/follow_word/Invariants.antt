-- `carried::follow_word` meets its contract: each turn carries the start of the lowest position that
-- is left along its row.
use Rattle.steps.proofs.Carrying.{FollowLeft}
use Rattle.carried.proofs.follow_word.Given as goal

abbrev pub invariant-loop-k : goal.invariant-loop-k
invariant-loop-k l = FollowLeft l.next l.from l.rows l.words l.word l.i l.initial.starts l.k-iterator.0 l.starts
