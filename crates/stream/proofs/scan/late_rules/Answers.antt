-- `stream::scan::late_rules` meets its contract: where no live position waits for the byte, no rule
-- ends late.
use mathlib.Core.Path.{sym, ◌∙◌}
use Rattle.table.specs.Gaps.{between, unsettled}
use Rattle.table.specs.Automaton.{automaton}
use Rattle.table.proofs.Test.{passes}
use Rattle.steps.specs.Step.{ends_newly, late_in, rules_where}
use Rattle.steps.proofs.TableSets.{number-on}
use Rattle.steps.proofs.Sifting.{window-is}
use Rattle.stream.proofs.Quiet.{late-none}
use Rattle.stream.proofs.scan.late_rules.Goals as goal

pub returns-then-waits : goal.returns-then-waits
returns-then-waits c =
    let start = c in
    let a = start.args in
    let t = a.words.now in
    let long = (passes t start.requires.0).long in
    let w = automaton t in
    window-is t (ends_newly w (between a.before a.after) (late_in w a.live) unsettled a.live) a.offset long
    (c.late_ending.ensures ∙ number-on t (rules_where w (ends_newly w (between a.before a.after) (late_in w a.live) unsettled a.live)) long)
    c.in_window.ensures

pub returns-else-waits : goal.returns-else-waits
returns-else-waits c =
    let start = c in
    let a = start.args in
    late-none (automaton a.words.now) a.live (sym start.requires.1 ∙ c.if-waits.false) a.before a.after a.offset
