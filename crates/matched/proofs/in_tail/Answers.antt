-- `matched::in_tail_lem` meets its contract: the difference is asked for only where the start is not
-- above the offset.
use native.Mathlib.Omega.{arith}
use mathlib.Core.Bool.{and-eq-true_iff}
use lib.Dec.{leb}
use borrow.Author.Tests.{leb-true}
use Rattle.matched.proofs.Laws.{tail-test, tail-fails}
use Rattle.matched.proofs.in_tail.Goals as goal

pub overflow_sub-result : goal.overflow_sub-result
overflow_sub-result c =
    let a = c.args in
    let both = (and-eq-true_iff (leb a.start a.end) (leb a.end a.offset)).0 c.if-start-end.true in
    omega (arith, leb-true a.start a.end both.0, leb-true a.end a.offset both.1)

pub returns-then-start-end : goal.returns-then-start-end
returns-then-start-end c =
    let a = c.args in
    tail-test a.tail.now a.offset a.start a.end c.if-start-end.true

pub returns : goal.returns
returns c =
    let a = c.args in
    tail-fails a.tail.now a.offset a.start a.end c.if-start-end.false
