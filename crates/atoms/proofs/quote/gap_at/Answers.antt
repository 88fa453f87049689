-- `atoms::quote::gap_at` meets its contract. The invariant: the marks before i are read. A mark
-- stands inside, so the measure, what is left of the bytes, falls.
use mathlib.Core.Path.{sym, ◌∙◌}
use native.Mathlib.Omega.{arith}
use Rattle.atoms.proofs.Gaps.{mark-inside, passed_none, passed-more, passed-done}
use Rattle.atoms.proofs.quote.gap_at.Goals as goal

pub loop-after-init : goal.loop-after-init
loop-after-init c =
    let args = c.args in
    let s = args.s.now in
    let at = args.at in
    passed_none args.quoted s at

pub overflow_add-i : goal.overflow_add-i
overflow_add-i c =
    let args = c.args in
    let s = args.s.now in
    let loop = c.loop-after in
    let mark-at = c.mark_at in
    omega (arith, mark-inside s loop.i loop.after (sym mark-at.ensures ∙ c.loop-after-test.true))

pub overflow_add-i-in-loop-after : goal.overflow_add-i-in-loop-after
overflow_add-i-in-loop-after c =
    let args = c.args in
    let s = args.s.now in
    let loop = c.loop-after in
    let mark-at = c.mark_at in
    omega (arith, mark-inside s loop.i loop.after (sym mark-at.ensures ∙ c.loop-after-test.true))

pub loop-after-smaller : goal.loop-after-smaller
loop-after-smaller c =
    let args = c.args in
    let s = args.s.now in
    let loop = c.loop-after in
    let mark-at = c.mark_at in
    omega (arith, mark-inside s loop.i loop.after (sym mark-at.ensures ∙ c.loop-after-test.true))

pub loop-after-preserved : goal.loop-after-preserved
loop-after-preserved c =
    let args = c.args in
    let s = args.s.now in
    let at = args.at in
    let loop = c.loop-after in
    let mark-at = c.mark_at in
    passed-more args.quoted s at loop.i loop.after loop.invariant c.peek-after.result (sym mark-at.ensures ∙ c.loop-after-test.true)
    c.peek-after.ensures

pub overflow_sub-result : goal.overflow_sub-result
overflow_sub-result c = omega (arith, c.loop-after.invariant.from)

pub returns : goal.returns
returns c =
    let args = c.args in
    let s = args.s.now in
    let at = args.at in
    let loop = c.loop-after in
    let mark-at = c.mark_at in
    passed-done args.quoted s at loop.i loop.after loop.invariant (sym mark-at.ensures ∙ c.loop-after-test.false)
