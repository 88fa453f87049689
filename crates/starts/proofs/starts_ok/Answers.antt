-- `starts::starts_ok` meets its contract: the three tests.
use mathlib.Core.Bool.{◌&&◌}
use Rattle.starts.proofs.starts_ok.Goals as goal

pub returns : goal.returns
returns c =
    λ i. c.set_ok.ensures i && (c.set_ok-2.ensures i && c.pairs_ok.ensures i)
