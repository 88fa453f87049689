-- `traced::reports::end_starts` meets its contract: the starts of the live positions first, and
-- from them on those of the held ones.
use mathlib.Core.Path.{sym, ◌∙◌}
use Rattle.table.specs.Layout.{max_rules}
use Rattle.table.specs.Automaton.{automaton}
use Rattle.steps.specs.Step.{starts_at}
use Rattle.steps.proofs.Carrying.{list_on_lem}
use Rattle.traced.specs.Invariants.{state_by}
use Rattle.traced.proofs.Closing.{ends-each}
use Rattle.traced.proofs.reports.end_starts.Goals as goal

pub starts_of-first-requires : goal.starts_of-first-requires
starts_of-first-requires c = c.requires

pub returns : goal.returns
returns c =
    let a = c.args in
    let t = a.words.now in
    let w = automaton t in
    let z = state_by a.s a.kept.now in
    let gap = c.at_end-gap in
    let first = c.starts_of-first in
    ends-each w z a.rules gap.result first.result c.rule_starts.result gap.ensures first.ensures
    (c.rule_starts.ensures ∙ sym (list_on_lem t max_rules (starts_at w a.rules gap.result z.stream.held z.starts.held first.result) c.requires))
