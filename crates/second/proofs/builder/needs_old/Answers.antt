-- `second::builder::needs_old` meets its contract: it joins the tests in the order of `needs_old`.
use Rattle.table.proofs.Test.{passes}
use Rattle.second.proofs.Gathering.{needs-is}
use Rattle.second.proofs.builder.needs_old.Goals as goal

pub reach-j-requires : goal.reach-j-requires
reach-j-requires c =
    c.requires

pub returns : goal.returns
returns c =
    let a = c.args in
    let t = a.words.now in
    needs-is t (passes t c.requires).long c.keepers-keeping.result c.keepers-keeping.ensures a.k a.e a.byte c.reach-j.result c.reach-j.ensures c.leftmosts-telling.result c.leftmosts-telling.ensures c.meets.result c.meets-2.result c.meets.ensures c.meets-2.ensures c.side_of.result c.side_of.ensures c.late_ending.result c.ending.result c.late_ending.ensures c.ending.ensures
