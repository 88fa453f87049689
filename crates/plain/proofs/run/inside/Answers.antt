-- `inside` meets its contract: the bounds of the end, then the length.
use mathlib.Core.Path.{sym}
use native.Mathlib.Omega.{arith}
use Rattle.pattern.specs.Windows.{windows_of}
use Rattle.plain.proofs.Windows.{outside, out-of-bounds, in_bounds}
use Rattle.plain.proofs.run.inside.Goals as goal

pub returns-then-end-bounds : goal.returns-then-end-bounds
returns-then-end-bounds c =
    let c-if1 = c.if-end-bounds in
    out-of-bounds (windows_of c.args.bounds) c.args.e c.args.x c-if1.true

pub returns-then-x-end : goal.returns-then-x-end
returns-then-x-end c =
    let c-if2 = c.if-x-end in
    sym (outside (windows_of c.args.bounds) c.args.e c.args.x (omega (arith, c-if2.true)))

pub returns : goal.returns
returns c =
    let c-if1 = c.if-end-bounds in
    let c-if2 = c.if-x-end in
    in_bounds (windows_of c.args.bounds) c.args.e c.args.x c-if1.false (omega (arith, c-if2.false))
