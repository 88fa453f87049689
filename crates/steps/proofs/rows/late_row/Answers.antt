-- `steps::rows::late_row` meets its contract: the set has its place in the table.
use mathlib.Core.Path.{◌∙◌}
use Rattle.steps.proofs.TableSets.{lates-set}
use Rattle.steps.proofs.rows.late_row.Goals as goal

pub returns : goal.returns
returns c = c.row.ensures ∙ lates-set c.args.words.now
