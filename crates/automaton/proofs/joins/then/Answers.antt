-- `joins::then` meets its contract: a join, and the two fragments in turn.
use Rattle.automaton.proofs.joins.then.Goals as goal

pub in_turn-requires : goal.in_turn-requires
in_turn-requires c = c.requires

pub returns : goal.returns
returns c = (c.in_turn.ensures, c.join.ensures)
