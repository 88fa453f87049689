-- `stream::scan::own_rules` meets its contract: the rules that end, kept to those in their window.
use mathlib.Core.Path.{◌∙◌}
use Rattle.table.specs.Gaps.{unsettled}
use Rattle.table.specs.Automaton.{automaton}
use Rattle.table.proofs.Test.{passes}
use Rattle.steps.specs.Step.{ends, rules_where}
use Rattle.steps.proofs.TableSets.{number-on}
use Rattle.steps.proofs.Sifting.{window-is}
use Rattle.stream.proofs.scan.own_rules.Goals as goal

pub returns : goal.returns
returns c =
    let start = c in
    let a = start.args in
    let t = a.words.now in
    let long = (passes t start.requires).long in
    let test = ends (automaton t) unsettled a.next in
    window-is t test a.end long (c.ending.ensures ∙ number-on t (rules_where (automaton t) test) long) c.in_window.ensures
