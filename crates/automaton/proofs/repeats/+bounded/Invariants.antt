-- The number of copies that are left falls.
use Rattle.automaton.proofs.repeats.+bounded.Given as goal

abbrev pub decreases-bounded : goal.decreases-bounded
decreases-bounded l = l.n
