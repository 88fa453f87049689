-- `states::state_in` meets its contract: it reads the words that `state_of` names.
use Rattle.states.proofs.Words.{loaded}
use Rattle.states.proofs.state_in.Goals as goal

pub returns : goal.returns
returns c = loaded c.args.words.now c.from.result c.from.ensures
