-- `states::no_state` meets its contract: its words are zeros.
use mathlib.Core.Path.{refl}
use Rattle.kinds.specs.Side.{side_in}
use Rattle.states.specs.State.{state_of}
use Rattle.states.proofs.no_state.Goals as goal

pub returns : goal.returns
unfolding state_of side_in
returns c = refl
