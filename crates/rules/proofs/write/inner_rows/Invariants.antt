-- `rules::write::inner_rows` meets its contract: each turn joins the set of one gap between two
-- bytes.
use mathlib.Core.Path.{◌≡◌}
use Rattle.rules.proofs.Steps.{rows_below}
use Rattle.rules.proofs.write.inner_rows.Given as goal

abbrev pub invariant-loop-g : goal.invariant-loop-g
invariant-loop-g l = l.s ≡ rows_below l.words l.at l.g
