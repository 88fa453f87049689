-- `fragments::optional` meets its contract: only where it matches nothing is new.
use mathlib.Core.Path.{refl}
use Rattle.automaton.specs.Invariants.{optional_of}
use Rattle.automaton.proofs.fragments.optional.Goals as goal

pub returns : goal.returns
unfolding optional_of
returns c = refl
