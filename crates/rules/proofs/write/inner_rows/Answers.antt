-- `rules::write::inner_rows` meets its contract: each turn joins the set of one gap between two
-- bytes.
use mathlib.Core.Path.{ap₂, ◌∙◌}
use native.Mathlib.Omega.{arith}
use Rattle.sets.specs.Set.{union_of}
use Rattle.rules.proofs.Steps.{rows-below-none, rows-below-more, rows-below-all}
use Rattle.rules.proofs.write.inner_rows.Goals as goal

pub loop-g-init : goal.loop-g-init
loop-g-init c = c.empty-s.ensures ∙ rows-below-none c.args.words.now c.args.at

pub loop-g-preserved : goal.loop-g-preserved
loop-g-preserved c =
    let a = c.args in
    let l = c.loop-g in
    c.union-t.ensures ∙ ap₂ union_of l.invariant c.row.ensures ∙ rows-below-more a.words.now a.at l.g

pub returns : goal.returns
returns c =
    let l = c.loop-g in
    let a = c.args in
    rows-below-all a.words.now a.at l.s l.g l.invariant (omega arith)
