-- `carried::put` meets its contract: word by word.
use Rattle.steps.specs.Invariants.{Put}
use Rattle.steps.proofs.Carrying.{in_words}
use Rattle.carried.proofs.put.Given as goal

abbrev pub invariant-loop-i : goal.invariant-loop-i
invariant-loop-i l = Put (in_words l.set l.i) l.keep l.start l.initial.starts l.starts
