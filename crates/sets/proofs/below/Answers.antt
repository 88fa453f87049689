-- `sets::below` meets its contract: each word keeps the digits that its mask has.
use borrow.Author.Rules.{rules}
use Rattle.sets.proofs.Laws.{words-owned, below-words}
use Rattle.sets.proofs.below.Goals as goal

pub returns : goal.returns
returns c =
    let start = c.before.before.before.before in
    let s = start.args.s in
    rw (c.mask.ensures, c.mask-2.ensures, c.mask-3.ensures, c.mask-4.ensures)
    (below-words s (words-owned s (search rules) (λ i. search rules)) start.args.n)
