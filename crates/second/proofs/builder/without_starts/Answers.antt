-- `second::builder::without_starts` meets its contract: the positions that keep a start are left
-- out.
use Rattle.table.proofs.Test.{passes}
use Rattle.second.proofs.Gathering.{startless-is}
use Rattle.second.proofs.builder.without_starts.Goals as goal

pub returns : goal.returns
returns c =
    startless-is c.args.words.now (passes c.args.words.now c.requires).long c.keepers.result c.keepers.ensures c.args.k c.complement-others.result c.intersection.result c.intersection-2.result c.complement-others.ensures c.intersection.ensures c.intersection-2.ensures
