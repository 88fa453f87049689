-- `lines::output::put_reports` meets its contract: the loop's invariant is that the lines of the
-- reports passed are placed.
use Rattle.std.proofs.Common.{◌≡◌, refl, ap, ◌∙◌, min, length, arith}
use Rattle.lines.specs.Output.{reports_placed}
use Rattle.lines.proofs.Buffers.{reports-one}
use Rattle.lines.proofs.output.put_reports.Goals as goal

pub loop-i-init : goal.loop-i-init
unfolding reports_placed
loop-i-init c = refl

pub loop-i-preserved : goal.loop-i-preserved
loop-i-preserved c = reports-one _ _ _ _ _ c.loop-i.i c.loop-i.invariant c.put_report-next.ensures

pub returns : goal.returns
returns c =
    let a = c.args in
    let e : c.loop-i.i ≡ min a.count (min (length a.ids.now) (length a.offsets.now)) = omega (arith, c.min-reports.ensures, c.min.ensures) in
    c.loop-i.invariant ∙ ap (reports_placed _ _ _) e
