-- `fragments::one` meets its contract: the set of one position, twice.
use Rattle.automaton.specs.Invariants.{one_of}
use Rattle.automaton.proofs.fragments.one.Goals as goal

pub returns : goal.returns
unfolding one_of
returns c = cc
