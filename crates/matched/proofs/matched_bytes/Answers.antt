-- `matched::matched_bytes` meets its contract: what passes a test lies inside the list that was
-- tested, so no difference wraps and the part is there.
use mathlib.Core.Path.{sym, ◌∙◌}
use native.Mathlib.Omega.{arith}
use Rattle.matched.proofs.Laws.{in-block, in_tail_lem, from_block, from_tail, from-neither}
use Rattle.matched.proofs.matched_bytes.Goals as goal

pub overflow_sub-from : goal.overflow_sub-from
overflow_sub-from c =
    let a = c.args in
    let h = in-block a.block.now a.offset a.start a.end (sym c.in_block.ensures ∙ c.if-in_block.true) in
    omega (arith, h.after, h.rises, h.inside)

pub overflow_sub-to : goal.overflow_sub-to
overflow_sub-to c =
    let a = c.args in
    let h = in-block a.block.now a.offset a.start a.end (sym c.in_block.ensures ∙ c.if-in_block.true) in
    omega (arith, h.after, h.rises, h.inside)

pub slice_bounds-result-count : goal.slice_bounds-result-count
slice_bounds-result-count c =
    let a = c.args in
    let h = in-block a.block.now a.offset a.start a.end (sym c.in_block.ensures ∙ c.if-in_block.true) in
    omega (arith, h.after, h.rises, h.inside)

pub slice_bounds-result-start : goal.slice_bounds-result-start
slice_bounds-result-start c =
    let a = c.args in
    let h = in-block a.block.now a.offset a.start a.end (sym c.in_block.ensures ∙ c.if-in_block.true) in
    omega (arith, h.after, h.rises, h.inside)

pub slice_bounds-result-end : goal.slice_bounds-result-end
slice_bounds-result-end c =
    let a = c.args in
    let h = in-block a.block.now a.offset a.start a.end (sym c.in_block.ensures ∙ c.if-in_block.true) in
    omega (arith, h.after, h.rises, h.inside)

pub returns-then-in_block : goal.returns-then-in_block
returns-then-in_block c =
    let a = c.args in
    (from_block a.tail.now a.block.now a.offset a.start a.end (sym c.in_block.ensures ∙ c.if-in_block.true)).0

pub overflow_sub-from-then-in_tail : goal.overflow_sub-from-then-in_tail
overflow_sub-from-then-in_tail c =
    let a = c.args in
    let h = in_tail_lem a.tail.now a.offset a.start a.end (sym c.in_tail.ensures ∙ c.if-in_tail.true) in
    omega (arith, h.inside, h.rises, h.before)

pub overflow_sub-from-then-in_tail-2 : goal.overflow_sub-from-then-in_tail-2
overflow_sub-from-then-in_tail-2 c =
    let a = c.args in
    let h = in_tail_lem a.tail.now a.offset a.start a.end (sym c.in_tail.ensures ∙ c.if-in_tail.true) in
    omega (arith, h.inside, h.rises, h.before)

pub overflow_sub-to-then-in_tail : goal.overflow_sub-to-then-in_tail
overflow_sub-to-then-in_tail c =
    let a = c.args in
    let h = in_tail_lem a.tail.now a.offset a.start a.end (sym c.in_tail.ensures ∙ c.if-in_tail.true) in
    omega (arith, h.inside, h.rises, h.before)

pub overflow_sub-to-then-in_tail-2 : goal.overflow_sub-to-then-in_tail-2
overflow_sub-to-then-in_tail-2 c =
    let a = c.args in
    let h = in_tail_lem a.tail.now a.offset a.start a.end (sym c.in_tail.ensures ∙ c.if-in_tail.true) in
    omega (arith, h.inside, h.rises, h.before)

pub slice_bounds-result-count-then-in_tail : goal.slice_bounds-result-count-then-in_tail
slice_bounds-result-count-then-in_tail c =
    let a = c.args in
    let h = in_tail_lem a.tail.now a.offset a.start a.end (sym c.in_tail.ensures ∙ c.if-in_tail.true) in
    omega (arith, h.inside, h.rises, h.before)

pub slice_bounds-result-start-then-in_tail : goal.slice_bounds-result-start-then-in_tail
slice_bounds-result-start-then-in_tail c =
    let a = c.args in
    let h = in_tail_lem a.tail.now a.offset a.start a.end (sym c.in_tail.ensures ∙ c.if-in_tail.true) in
    omega (arith, h.inside, h.rises, h.before)

pub returns-then-in_tail : goal.returns-then-in_tail
returns-then-in_tail c =
    let a = c.args in
    (from_tail a.tail.now a.block.now a.offset a.start a.end (sym c.in_block.ensures ∙ c.if-in_block.false) (sym c.in_tail.ensures ∙ c.if-in_tail.true)).0

pub returns : goal.returns
returns c =
    let a = c.args in
    (from-neither a.tail.now a.block.now a.offset a.start a.end (sym c.in_block.ensures ∙ c.if-in_block.false) (sym c.in_tail.ensures ∙ c.if-in_tail.false)).0
