-- `second::builder::place` meets its contract. The loop's invariant: no entry before e has the key.
use mathlib.Core.Path.{◌≡◌}
use Rattle.second.specs.Entries.{first_of}
use Rattle.second.specs.Invariants.{has_key}
use Rattle.second.proofs.builder.place.Given as goal

abbrev pub invariant-loop-e : goal.invariant-loop-e
invariant-loop-e l = (first_of l.e (has_key l.second l.k) ≡ l.e)
