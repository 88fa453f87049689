-- `steps::rows::last_row` meets its contract: the gap has its set in the table.
use mathlib.Core.Path.{◌∙◌}
use lib.ListN.{length}
use Rattle.steps.proofs.Bounds.{last-offset-fits, last_fits, last-inside}
use Rattle.steps.proofs.TableSets.{last_set}
use Rattle.steps.proofs.rows.last_row.Goals as goal

pub overflow_mul-gap : goal.overflow_mul-gap
overflow_mul-gap c = last-offset-fits c.args.gap c.requires.1

pub overflow_add-gap : goal.overflow_add-gap
overflow_add-gap c = last_fits c.args.gap c.requires.1

pub row-requires : goal.row-requires
row-requires c = last-inside c.args.gap c.requires.1 (length c.args.words.now) c.requires.0

pub returns : goal.returns
returns c =
    c.row.ensures ∙ last_set c.args.words.now c.args.gap c.requires.1
