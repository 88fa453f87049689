-- `steps::rows::ending_at` meets its contract: the owners of the positions of the set that can end
-- a match at the gap.
use mathlib.Core.Path.{◌∙◌}
use native.Mathlib.Omega.{arith}
use Rattle.steps.proofs.TableSets.{ends-word}
use Rattle.steps.proofs.rows.ending_at.Goals as goal

pub rule_count-rules-requires : goal.rule_count-rules-requires
rule_count-rules-requires c = c.requires.0

pub last_row-requires : goal.last_row-requires
last_row-requires c = (c.requires.0, c.requires.1)

pub owners-requires : goal.owners-requires
owners-requires c = (c.requires.0, omega (arith, c.rule_count-rules.ensures))

pub returns : goal.returns
returns c =
    let a = c.args in
    let few = c.rule_count-rules in
    let last = c.last_row in
    let found = c.intersection-found in
    c.owners.ensures ∙ ends-word a.words.now a.gap a.set last.result found.result few.result few.ensures last.ensures found.ensures
