-- `atoms::escape::braced` meets its contract: the number has a digit and its brace, or not. The
-- digits stand within the pattern, so no sum wraps.
use Rattle.std.proofs.Common.{arith, ◌∙◌, ◌+◌, sym}
use borrow.Author.Tests.{le-leb, lt-leb}
use Rattle.atoms.specs.Answer.{numeral}
use Rattle.atoms.proofs.Digits.{numeral-fits}
use Rattle.atoms.proofs.Escapes.{braced-some, braced-open, braced-none}
use Rattle.atoms.proofs.escape.braced.Goals as goal
use Rattle.atoms.proofs.escape.braced.Goals.{in_default-via-in-Some+else-peek-eq125, in_default-via-in_default}

pub overflow_add-n : goal.overflow_add-n
overflow_add-n c = omega (arith, numeral-fits c.args.base c.args.s.now (c.args.at + 1) (numeral c.numeral_at-n.result) c.numeral_at-n.ensures)

pub overflow_add-at-in-Some-1 : goal.overflow_add-at-in-Some-1
overflow_add-at-in-Some-1 c = omega (arith, numeral-fits c.args.base c.args.s.now (c.args.at + 1) (numeral c.numeral_at-n.result) c.numeral_at-n.ensures)

pub returns-then-value-le255 : goal.returns-then-value-le255
returns-then-value-le255 c =
    rw (
      braced-some c.args.base c.args.s.now c.args.at c.numeral_at-n.result c.peek.result c.numeral_at-n.ensures c.peek.ensures c.in-Some.value
          c.in-Some.is c.if-peek-eq125.true,
      le-leb _ 255 c.if-value-le255.true,
    ) c.sound.ensures

pub returns-else-value-le255 : goal.returns-else-value-le255
returns-else-value-le255 c =
    rw (
      braced-some c.args.base c.args.s.now c.args.at c.numeral_at-n.result c.peek.result c.numeral_at-n.ensures c.peek.ensures c.in-Some.value
          c.in-Some.is c.if-peek-eq125.true,
      lt-leb _ 255 c.if-value-le255.false,
    ) c.faulty.ensures

pub returns-in_default : goal.returns-in_default
returns-in_default c = elim c.in_default.branch [
  | in_default-via-in-Some+else-peek-eq125 w ↦
      c.faulty-in_default.ensures
      ∙ sym (braced-open c.args.base c.args.s.now c.args.at c.numeral_at-n.result w.peek.result c.numeral_at-n.ensures w.peek.ensures w.if-peek-eq125.false)
  | in_default-via-in_default w ↦
      c.faulty-in_default.ensures ∙ sym (braced-none c.args.base c.args.s.now c.args.at c.numeral_at-n.result c.numeral_at-n.ensures w.in_default.is)
]
