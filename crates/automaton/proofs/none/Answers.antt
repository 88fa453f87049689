-- `none` meets its contract: two empty sets, and zeros.
use Rattle.automaton.proofs.none.Goals as goal

pub returns : goal.returns
returns c = cc
