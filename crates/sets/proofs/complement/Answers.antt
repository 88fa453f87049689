-- `sets::complement` meets its contract: each digit is turned.
use borrow.Author.Rules.{rules}
use Rattle.sets.proofs.Laws.{words-owned, complement-words}
use Rattle.sets.proofs.complement.Goals as goal

pub returns : goal.returns
returns c = complement-words c.args.s (words-owned c.args.s (search rules) (λ i. search rules))
