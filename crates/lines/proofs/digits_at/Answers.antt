-- `lines::digits_at` meets its contract: the loop's invariant is `Reading`, which takes a step at
-- each digit and gives the answer where the digits end.
use Rattle.std.proofs.Common.{sym, ◌∙◌, get_or, arith}
use borrow.Author.Tests.{not-true, not-false}
use Rattle.lines.proofs.Reading.{digit-range, digits-past, digits-stop, begun, read_one, read_all}
use Rattle.lines.proofs.digits_at.Goals as goal

pub loop-at-init : goal.loop-at-init
loop-at-init c = record { reading = begun c.args.line.now c.args.from; within = omega arith }

pub returns-then-not-is_digit : goal.returns-then-not-is_digit
returns-then-not-is_digit c =
    let both =
    let x = c.loop-at in
    let l = c.args.line.now in
    read_all l _ x.value x.at x.invariant.reading
    (digits-stop l x.at (omega arith) (sym c.is_digit.ensures ∙ not-true _ c.if-not-is_digit.true-raw)) in
    record { value = both.0; end = both.1 }

pub overflow_sub-b : goal.overflow_sub-b
overflow_sub-b c = (digit-range _ (sym c.is_digit.ensures ∙ not-false _ c.if-not-is_digit.false-raw)).0

pub overflow_mul-value : goal.overflow_mul-value
overflow_mul-value c = omega (arith, c.loop-at.invariant.reading.small)

pub overflow_add-value : goal.overflow_add-value
overflow_add-value c =
    omega (arith, c.loop-at.invariant.reading.small, digit-range (get_or c.args.line.now c.loop-at.at 0) (sym c.is_digit.ensures ∙ not-false _ c.if-not-is_digit.false-raw))

pub loop-at-preserved : goal.loop-at-preserved
loop-at-preserved c =
    let x = c.loop-at in
    record {
      reading =
          rw c.min-value.ensures
          (read_one _ _ x.value x.at x.invariant.reading (omega arith) (sym c.is_digit.ensures ∙ not-false _ c.if-not-is_digit.false-raw));
      within = omega arith;
    }

pub returns : goal.returns
returns c =
    let x = c.loop-at in
    let l = c.args.line.now in
    let both = read_all l _ x.value x.at x.invariant.reading (digits-past l x.at (omega arith)) in
    record { value = both.0; end = omega (arith, both.1, x.invariant.within, c.max.ensures) }
