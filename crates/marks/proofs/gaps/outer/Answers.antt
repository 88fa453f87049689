-- `outer` meets its contract: the byte, and then the end or nothing known.
use native.Mathlib.Omega.{arith}
use Rattle.kinds.specs.Side.{side_of}
use Rattle.meaning.specs.Gap.{byte}
use lib.ListN.{get_or}
use Rattle.marks.proofs.Worlds.{code-low, outer-end, outer-open}
use Rattle.marks.proofs.gaps.outer.Goals as goal

pub overflow_add-result : goal.overflow_add-result
overflow_add-result c =
    let c-side = c.side-side in
    omega (arith, c-side.ensures, code-low (byte (side_of (get_or c.args.log.now c.args.k 0))))

pub returns-then-last : goal.returns-then-last
returns-then-last c =
    let c-side = c.side-side in
    let c-if1 = c.if-last in
    outer-end c.args.log.now c.args.k c.requires c-side.result c-side.ensures c.args.last c-if1.true

pub overflow_add-result-2 : goal.overflow_add-result-2
overflow_add-result-2 c =
    let c-side = c.side-side in
    omega (arith, c-side.ensures, code-low (byte (side_of (get_or c.args.log.now c.args.k 0))))

pub returns : goal.returns
returns c =
    let c-side = c.side-side in
    let c-if1 = c.if-last in
    outer-open c.args.log.now c.args.k c.requires c-side.result c-side.ensures c.args.last c-if1.false
