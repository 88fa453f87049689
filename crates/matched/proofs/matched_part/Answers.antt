-- `matched::matched_part` meets its contract, by the same tests as `matched_bytes`: what passes one
-- lies inside, so no difference wraps.
use mathlib.Core.Path.{sym, ◌∙◌}
use native.Mathlib.Omega.{arith}
use Rattle.matched.proofs.Laws.{in-block, in_tail_lem, part-block, part-tail, part-neither}
use Rattle.matched.proofs.matched_part.Goals as goal

pub overflow_sub-result : goal.overflow_sub-result
overflow_sub-result c =
    let a = c.args in
    let h = in-block a.block.now a.offset a.start a.end (sym c.in_block.ensures ∙ c.if-in_block.true) in
    omega (arith, h.after, h.rises, h.inside)

pub overflow_sub-result-then-in_block : goal.overflow_sub-result-then-in_block
overflow_sub-result-then-in_block c =
    let a = c.args in
    let h = in-block a.block.now a.offset a.start a.end (sym c.in_block.ensures ∙ c.if-in_block.true) in
    omega (arith, h.after, h.rises, h.inside)

pub returns-then-in_block : goal.returns-then-in_block
returns-then-in_block c =
    let a = c.args in
    part-block a.tail.now a.block.now a.offset a.start a.end (sym c.in_block.ensures ∙ c.if-in_block.true)

pub overflow_sub-result-then-in_tail : goal.overflow_sub-result-then-in_tail
overflow_sub-result-then-in_tail c =
    let a = c.args in
    let h = in_tail_lem a.tail.now a.offset a.start a.end (sym c.in_tail.ensures ∙ c.if-in_tail.true) in
    omega (arith, h.inside, h.rises, h.before)

pub overflow_sub-result-then-in_tail-2 : goal.overflow_sub-result-then-in_tail-2
overflow_sub-result-then-in_tail-2 c =
    let a = c.args in
    let h = in_tail_lem a.tail.now a.offset a.start a.end (sym c.in_tail.ensures ∙ c.if-in_tail.true) in
    omega (arith, h.inside, h.rises, h.before)

pub overflow_sub-result-then-in_tail-3 : goal.overflow_sub-result-then-in_tail-3
overflow_sub-result-then-in_tail-3 c =
    let a = c.args in
    let h = in_tail_lem a.tail.now a.offset a.start a.end (sym c.in_tail.ensures ∙ c.if-in_tail.true) in
    omega (arith, h.inside, h.rises, h.before)

pub returns-then-in_tail : goal.returns-then-in_tail
returns-then-in_tail c =
    let a = c.args in
    let out = sym c.in_block.ensures ∙ c.if-in_block.false in
    part-tail a.tail.now a.block.now a.offset a.start a.end out (sym c.in_tail.ensures ∙ c.if-in_tail.true)

pub returns : goal.returns
returns c =
    let a = c.args in
    let out = sym c.in_block.ensures ∙ c.if-in_block.false in
    part-neither a.tail.now a.block.now a.offset a.start a.end out (sym c.in_tail.ensures ∙ c.if-in_tail.false)
