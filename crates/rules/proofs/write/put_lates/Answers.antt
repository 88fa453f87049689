-- `rules::write::put_lates` meets its contract: what the last sets between two bytes have, and not
-- the one where it is not known what follows.
use Rattle.rules.proofs.Steps.{lates-is}
use Rattle.rules.proofs.write.put_lates.Goals as goal

pub returns : goal.returns
returns c =
    lates-is c.args.words.now c.inner_rows-some.result c.row-settled.result c.complement.result c.intersection-late.result c.put_set.new.words
    c.inner_rows-some.ensures c.row-settled.ensures c.complement.ensures c.intersection-late.ensures c.put_set.ensures
