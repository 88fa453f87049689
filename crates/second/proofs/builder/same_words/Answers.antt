-- `second::builder::same_words` meets its contract: each list has four words.
use Rattle.steps.proofs.Bounds.{words-good}
use Rattle.second.proofs.Searching.{four_same}
use Rattle.second.proofs.builder.same_words.Goals as goal

pub returns : goal.returns
returns c = four_same c.args.s c.args.t (words-good c.args.s _ c.well_formed.0).four (words-good c.args.t _ c.well_formed.1.0).four
