-- `rules::write::merge_row` meets its contract: what it reads, masks and joins is put back in one
-- piece.
use Rattle.rules.proofs.Steps.{merge-is}
use Rattle.rules.proofs.write.merge_row.Goals as goal

pub returns : goal.returns
returns c =
    merge-is c.args.words.now c.put_set.new.words c.row-old.result c.below-kept.result c.union-all.result c.args.new c.args.at c.args.n
    c.row-old.ensures c.below-kept.ensures c.union-all.ensures c.put_set.ensures
