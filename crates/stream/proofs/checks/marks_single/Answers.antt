-- `stream::checks::marks_single` meets its contract: no digit is left of the marks without the
-- single-match rules.
use mathlib.Core.Path.{◌∙◌}
use mathlib.Core.Bool.{◌&&◌}
use lib.Dec.{ltb}
use Rattle.table.specs.Automaton.{automaton, single}
use Rattle.steps.specs.Step.{rules_where}
use Rattle.steps.proofs.TableSets.{number-on}
use Rattle.stream.proofs.Accepting.{marks-test}
use Rattle.stream.proofs.checks.marks_single.Goals as goal

pub returns : goal.returns
returns c =
    let c-start = c in
    let c-singles = c.singles in
    let a = c-start.args in
    let w = automaton a.words.now in
    marks-test a.reported c-singles.result (λ k. ltb k w.rules && single w k) c-start.ranges.reported.fits
    (c-singles.ensures ∙ number-on a.words.now (rules_where w (single w)) c-start.requires)
