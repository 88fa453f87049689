-- `second::builder::resting_row` meets its contract. The loop's invariant: no entry before e is at
-- rest.
use mathlib.Core.Path.{◌≡◌}
use Rattle.second.specs.Entries.{first_of}
use Rattle.second.specs.Invariants.{rests}
use Rattle.second.proofs.builder.resting_row.Given as goal

abbrev pub invariant-loop-e : goal.invariant-loop-e
invariant-loop-e l = (first_of l.e (rests l.second l.side) ≡ l.e)
