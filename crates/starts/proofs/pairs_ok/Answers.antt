-- `starts::pairs_ok` meets its contract: it is the test of 64 starts.
use mathlib.Core.Path.{◌∙◌}
use Rattle.starts.proofs.Checking.{rules-order}
use Rattle.starts.proofs.pairs_ok.Goals as goal

pub returns : goal.returns
returns c =
    let a = c.args in
    c.block_ok.ensures ∙ rules-order a.pairs.now a.pending a.taken
