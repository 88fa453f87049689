-- `fragments::bare` meets its contract: two empty sets.
use Rattle.automaton.specs.Invariants.{bare_of}
use Rattle.automaton.proofs.fragments.bare.Goals as goal

pub returns : goal.returns
unfolding bare_of
returns c = cc
