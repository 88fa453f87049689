-- `steps::rows::row` meets its contract: four words are the set of their members.
use Rattle.table.proofs.Rows.{row_words}
use Rattle.steps.proofs.rows.row.Goals as goal

pub returns : goal.returns
returns c =
    let c-shared-slice-known = c.type_inv.words in
    row_words c.args.words.now c.args.at (λ i. c-shared-slice-known i)
