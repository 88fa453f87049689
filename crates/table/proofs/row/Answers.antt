-- `table::row` meets its contract: four words that are there are the set of their members, and
-- otherwise the end cuts the set off.
use Rattle.table.proofs.Rows.{row_words}
use Rattle.table.proofs.row.Goals as goal

pub returns : goal.returns
returns c = row_words c.args.words.now c.args.at (λ i. c.type_inv.words i)
