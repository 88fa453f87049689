-- `steps::walk::walk_word` meets its contract: what the turns to come join to the set so far is what
-- all turns join, and they are as many as digits are left.
use Rattle.std.proofs.Common.{◌≡◌, ◌+◌}
use Rattle.std.specs.Int.Count.{ones}
use Rattle.steps.specs.Invariants.{joined}
use Rattle.steps.proofs.walk.walk_word.Given as goal

abbrev pub invariant-loop-k : goal.invariant-loop-k
invariant-loop-k l =
    (l.turns + ones l.k-iterator.0 ≡ ones l.word)
    × (joined l.words l.rows l.word l.base l.initial.set (ones l.word) ≡ joined l.words l.rows l.k-iterator.0 l.base l.set (ones l.k-iterator.0))
