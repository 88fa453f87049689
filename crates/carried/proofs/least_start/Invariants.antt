-- `carried::least_start` meets its contract: word by word.
use Rattle.std.proofs.Common.{◌≡◌}
use Rattle.steps.specs.Invariants.{least_owned}
use Rattle.steps.proofs.Carrying.{in_words}
use Rattle.carried.proofs.least_start.Given as goal

abbrev pub invariant-loop-i : goal.invariant-loop-i
invariant-loop-i l = l.least ≡ least_owned l.words (in_words l.set l.i) l.owner l.starts l.initial.least
