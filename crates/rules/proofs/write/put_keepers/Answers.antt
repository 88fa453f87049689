-- `rules::write::put_keepers` meets its contract: it is one `merge_row` of the new positions.
use Rattle.rules.proofs.Steps.{keepers-is}
use Rattle.rules.proofs.write.put_keepers.Goals as goal

pub returns : goal.returns
returns c =
    let a = c.args in
    keepers-is a.span.n a.span.more a.keeping c.new_keepers.result a.words.now c.merge_row.new.words c.new_keepers.ensures c.merge_row.ensures
