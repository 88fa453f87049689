-- `steps::rows::owner_word` meets its contract: what the turns to come collect with what is found so
-- far is what all turns collect.
use Rattle.std.proofs.Common.{◌≡◌}
use Rattle.std.specs.Int.Count.{ones}
use Rattle.steps.specs.Invariants.{collected}
use Rattle.steps.proofs.rows.owner_word.Given as goal

abbrev pub invariant-loop-k : goal.invariant-loop-k
invariant-loop-k l =
    collected l.words l.rules l.word l.base l.initial.found (ones l.word) ≡ collected l.words l.rules l.k-iterator.0 l.base l.found (ones l.k-iterator.0)
