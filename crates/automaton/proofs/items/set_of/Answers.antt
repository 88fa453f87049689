-- `items::set_of` meets its contract: the words before the node, one by one.
use Rattle.automaton.proofs.Words.{set-low, set-high}
use Rattle.automaton.proofs.items.set_of.Goals as goal

pub returns-then-k-lt4 : goal.returns-then-k-lt4
returns-then-k-lt4 c = cc (set-low c.args.a.now c.args.k c.if-k-lt4.true)

pub returns : goal.returns
returns c = cc (set-high c.args.a.now c.args.k c.if-k-lt4.false)
