-- `has` meets its contract: it reads one digit.
use Rattle.marks.proofs.Worlds.{digit-is}
use Rattle.marks.proofs.moves.has.Goals as goal

pub returns : goal.returns
returns c =
    digit-is c.args.mask c.args.g
