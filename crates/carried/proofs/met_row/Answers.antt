-- `carried::met_row` meets its contract: four words of the table, each with one of the set.
use borrow.Author.Rules.{rules}
use Rattle.sets.proofs.Laws.{words-owned}
use Rattle.carried.proofs.RowSets.{met-words}
use Rattle.carried.proofs.met_row.Goals as goal

pub returns : goal.returns
returns c =
    let known = c.type_inv.words in
    let a = c.args in
    met-words a.words.now a.at (λ i. known i) a.set (words-owned a.set (search rules) (λ i. search rules))
