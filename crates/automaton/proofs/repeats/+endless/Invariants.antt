-- The number of copies that are left falls.
use Rattle.automaton.proofs.repeats.+endless.Given as goal

abbrev pub decreases-endless : goal.decreases-endless
decreases-endless l = l.n
