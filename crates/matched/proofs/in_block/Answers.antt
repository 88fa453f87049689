-- `matched::in_block` meets its contract: the difference is asked for only where the offset is not
-- above the end.
use native.Mathlib.Omega.{arith}
use mathlib.Core.Bool.{and-eq-true_iff}
use lib.Dec.{leb}
use borrow.Author.Tests.{leb-true}
use Rattle.matched.proofs.Laws.{block-test, block-fails}
use Rattle.matched.proofs.in_block.Goals as goal

pub overflow_sub-result : goal.overflow_sub-result
overflow_sub-result c =
    let a = c.args in
    let both = (and-eq-true_iff (leb a.offset a.start) (leb a.start a.end)).0 c.if-offset-start.true in
    omega (arith, leb-true a.offset a.start both.0, leb-true a.start a.end both.1)

pub returns-then-offset-start : goal.returns-then-offset-start
returns-then-offset-start c =
    let a = c.args in
    block-test a.block.now a.offset a.start a.end c.if-offset-start.true

pub returns : goal.returns
returns c =
    let a = c.args in
    block-fails a.block.now a.offset a.start a.end c.if-offset-start.false
