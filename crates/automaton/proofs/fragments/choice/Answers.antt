-- `fragments::choice` meets its contract: the unions of the sets.
use Rattle.automaton.proofs.Pieces.{choice-is}
use Rattle.automaton.proofs.fragments.choice.Goals as goal

pub returns : goal.returns
returns c =
    choice-is c.args.f c.args.g c.union.ensures c.union-2.ensures
