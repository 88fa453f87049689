-- `carried::copy` meets its contract: word by word.
use Rattle.steps.specs.Invariants.{Copied}
use Rattle.steps.proofs.Carrying.{in_words}
use Rattle.carried.proofs.copy.Given as goal

abbrev pub invariant-loop-i : goal.invariant-loop-i
invariant-loop-i l = Copied (in_words l.set l.i) l.from l.initial.to l.to
