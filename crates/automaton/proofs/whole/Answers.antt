-- `whole` meets its contract: what was built over zeros, with the rows moved to the front.
use borrow.Author.Rules.{rules}
use Rattle.automaton.proofs.Padded.{handed_out, fresh-zeros}
use Rattle.automaton.proofs.whole.Goals as goal

pub node-f-requires : goal.node-f-requires
node-f-requires c = (c.requires, fresh-zeros c.args.base)

pub returns : goal.returns
returns c = handed_out c.requires c.node-f.ensures c.front.ensures (λ i. search rules) c.front-2.ensures
