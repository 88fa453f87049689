-- `copies::copy_follow` meets its contract. The loop's invariant: the first `i` rows are copied.
use Rattle.automaton.specs.Invariants.{Copied}
use Rattle.automaton.proofs.copies.copy_follow.Given as goal

abbrev pub invariant-loop-i : goal.invariant-loop-i
invariant-loop-i l = Copied l.c l.n l.i l.initial.rows l.rows
