-- The number of copies that are left falls.
use Rattle.automaton.proofs.repeats.+nested.Given as goal

abbrev pub decreases-nested : goal.decreases-nested
decreases-nested l = l.j
