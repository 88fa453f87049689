-- `sets::is_empty` meets its contract: the four words or-ed together are 0 where no digit is set.
use borrow.Author.Rules.{rules}
use Rattle.sets.proofs.Laws.{words-owned, empty-test}
use Rattle.sets.proofs.is_empty.Goals as goal

pub returns : goal.returns
returns c = empty-test c.args.s (words-owned c.args.s (search rules) (λ i. search rules))
