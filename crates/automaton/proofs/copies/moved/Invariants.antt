-- `copies::moved` meets its contract. The loop's invariant: the members among the first `i`
-- positions are moved.
use mathlib.Core.Path.{◌≡◌}
use Rattle.automaton.specs.Invariants.{moved_on}
use Rattle.automaton.proofs.copies.moved.Given as goal

abbrev pub invariant-loop-i : goal.invariant-loop-i
invariant-loop-i l = l.out ≡ moved_on l.c l.n l.i l.s
