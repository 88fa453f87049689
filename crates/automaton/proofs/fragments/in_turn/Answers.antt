-- `fragments::in_turn` meets its contract, set by set.
use Rattle.automaton.proofs.Pieces.{in-turn-is}
use Rattle.automaton.proofs.fragments.in_turn.Goals as goal

pub returns : goal.returns
returns c =
    in-turn-is c.args.f c.args.g c.with_if.ensures c.with_if-2.ensures
