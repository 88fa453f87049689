-- `sets::union` meets its contract: each digit is that of s or that of t.
use borrow.Author.Rules.{rules}
use Rattle.sets.proofs.Laws.{words-owned, union-words}
use Rattle.sets.proofs.union.Goals as goal

pub returns : goal.returns
returns c =
    union-words c.args.s c.args.t (words-owned c.args.s (search rules) (λ i. search rules))
    (words-owned c.args.t (search rules) (λ i. search rules))
