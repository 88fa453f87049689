-- `carried::follow` meets its contract: word by word.
use Rattle.steps.specs.Invariants.{Followed}
use Rattle.steps.proofs.Carrying.{in_words}
use Rattle.carried.proofs.follow.Given as goal

abbrev pub invariant-loop-i : goal.invariant-loop-i
invariant-loop-i l = Followed (in_words l.live l.i) l.next l.from l.rows l.words l.initial.starts l.starts
