-- `table::cut_row` meets its contract: a set past the end has no members, and one that the end cuts
-- off has words 0 there.
use Rattle.std.proofs.Common.{◌∙◌, arith}
use Rattle.table.proofs.Rows.{row-past-end, row_cut}
use Rattle.table.proofs.cut_row.Goals as goal

pub returns-then-words-at : goal.returns-then-words-at
returns-then-words-at c = c.empty.ensures ∙ row-past-end c.args.words.now c.args.at c.if-words-at.true

pub returns : goal.returns
returns c =
    row_cut c.args.words.now c.args.at c.word.result c.word-2.result (λ i. c.type_inv.words i) (omega (arith, c.requires)) c.word.ensures c.word-2.ensures
