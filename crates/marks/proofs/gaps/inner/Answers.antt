-- `inner` meets its contract: what stands before and after, as the number of the gap.
use native.Mathlib.Omega.{arith}
use Rattle.kinds.specs.Side.{side_of}
use Rattle.meaning.specs.Gap.{byte}
use lib.ListN.{get_or}
use Rattle.marks.specs.Gaps.{before_gap}
use Rattle.marks.proofs.Worlds.{code-low, byte-code, inner-newline, inner-other}
use Rattle.marks.proofs.gaps.inner.Goals as goal

pub overflow_add-result : goal.overflow_add-result
overflow_add-result c =
    let c-before2 = c.before-before in
    omega (arith, c-before2.ensures, code-low (before_gap c.args.log.now c.args.k))

pub returns-then-last-byte : goal.returns-then-last-byte
returns-then-last-byte c =
    let c-before2 = c.before-before in
    let c-if1 = c.if-last-byte in
    inner-newline c.args.log.now c.args.k c-before2.result c.args.last c-if1.true c-before2.ensures

pub overflow_sub-result : goal.overflow_sub-result
overflow_sub-result c =
    let c-side = c.side in
    omega (arith, c-side.ensures, byte-code (side_of (get_or c.args.log.now c.args.k 0)))

pub overflow_mul-result : goal.overflow_mul-result
overflow_mul-result c =
    let c-side = c.side in
    omega (arith, c-side.ensures, code-low (byte (side_of (get_or c.args.log.now c.args.k 0))))

pub overflow_add-result-2 : goal.overflow_add-result-2
overflow_add-result-2 c =
    let c-side = c.side in
    let c-before2 = c.before-before in
    omega (arith, c-side.ensures, code-low (byte (side_of (get_or c.args.log.now c.args.k 0))), c-before2.ensures, code-low (before_gap c.args.log.now c.args.k))

pub returns : goal.returns
returns c =
    let c-before2 = c.before-before in
    let c-side = c.side in
    let c-if1 = c.if-last-byte in
    inner-other c.args.log.now c.args.k c-before2.result c-side.result c.args.last c-if1.false c-before2.ensures c-side.ensures
