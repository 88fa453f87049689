-- `steps::rows::owners` meets its contract: word by word.
use Rattle.std.proofs.Common.{◌≡◌, ◌*◌}
use Rattle.steps.specs.Invariants.{owners_of}
use Rattle.steps.proofs.rows.owners.Given as goal

abbrev pub invariant-loop-i : goal.invariant-loop-i
invariant-loop-i l = l.found ≡ owners_of l.words l.rules l.set (l.i * 64)
