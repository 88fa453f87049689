-- `rules::write::takers_of` meets its contract. The loop's invariant: the set has the takers among
-- the first `i` new positions.
use mathlib.Core.Path.{◌≡◌}
use Rattle.rules.specs.Invariants.{new_takers}
use Rattle.rules.proofs.write.takers_of.Given as goal

abbrev pub invariant-loop-i : goal.invariant-loop-i
invariant-loop-i l = l.s ≡ new_takers l.takes l.span.n l.i l.x
