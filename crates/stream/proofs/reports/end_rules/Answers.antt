-- `stream::reports::end_rules` meets its contract: the rules that need the end, kept to those in
-- their window.
use mathlib.Core.Path.{◌∙◌}
use Rattle.sets.specs.Set.{union_of}
use Rattle.table.specs.Gaps.{unsettled, at_the_end}
use Rattle.table.specs.Automaton.{automaton}
use Rattle.table.proofs.Test.{passes}
use Rattle.steps.specs.Step.{ends_newly, rules_where}
use Rattle.steps.proofs.TableSets.{number-on}
use Rattle.steps.proofs.Sifting.{window-is}
use Rattle.stream.proofs.reports.end_rules.Goals as goal

pub returns : goal.returns
returns c =
    let start = c in
    let s = start.args.s in
    let t = start.args.words.now in
    let long = (passes t start.requires).long in
    let test = ends_newly (automaton t) (at_the_end s.last) (union_of s.live s.held) unsettled s.live in
    window-is t test s.taken long (c.closing.ensures ∙ number-on t (rules_where (automaton t) test) long) c.in_window.ensures
