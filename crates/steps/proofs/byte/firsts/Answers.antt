-- `steps::byte::firsts` meets its contract: the gap has its set in the table, and no position
-- counts where no match can begin with the byte.
use mathlib.Core.Path.{sym, ap, ◌∙◌}
use mathlib.Core.Bool.{Bool, ◌||◌}
use lib.Dec.{leb}
use lib.ListN.{length}
use Rattle.table.specs.Gaps.{inner_gaps}
use Rattle.steps.proofs.Bounds.{first-offset-fits, first_fits, first-inside}
use Rattle.steps.proofs.Steps.{first-row, first-none}
use Rattle.steps.proofs.byte.firsts.Goals as goal

pub overflow_mul-gap : goal.overflow_mul-gap
overflow_mul-gap c = first-offset-fits c.args.gap c.requires.1

pub overflow_add-gap : goal.overflow_add-gap
overflow_add-gap c = first_fits c.args.gap c.requires.1

pub row-requires : goal.row-requires
row-requires c =
    first-inside c.args.gap c.requires.1 (length c.args.words.now) c.requires.0

pub returns-then-gap-opens : goal.returns-then-gap-opens
returns-then-gap-opens c =
    let a = c.args in
    c.row.ensures
    ∙ first-row a.words.now a.gap a.byte c.requires.1
    (ap (λ (b : Bool). leb inner_gaps a.gap || b) (sym c.opens.ensures) ∙ c.if-gap-opens.true)

pub returns-else-gap-opens : goal.returns-else-gap-opens
returns-else-gap-opens c =
    let a = c.args in
    c.empty.ensures
    ∙ first-none a.words.now a.gap a.byte
    (ap (λ (b : Bool). leb inner_gaps a.gap || b) (sym c.opens.ensures) ∙ c.if-gap-opens.false)
