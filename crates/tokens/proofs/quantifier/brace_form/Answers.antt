-- `tokens::quantifier::brace_form` meets its contract: the definition, read at the two numbers and
-- the bytes after them, goes by the tests of the code. The digits stand within the pattern, so no
-- sum wraps.
use Rattle.std.proofs.Common.{◌≡◌, ◌∙◌, ap, refl, sym, arith, List, ℕ, ◌+◌, ◌-◌, ◌≤◌, length, drop, Some, None}
use Rattle.atoms.specs.Number.{Numeral, numeral_of}
use Rattle.atoms.specs.Answer.{numeral}
use Rattle.atoms.proofs.Digits.{numeral-fits}
use Rattle.tokens.specs.Quantifier.{bounded}
use Rattle.tokens.proofs.Forms.{braces-closed, braces-other, braces-unclosed, braces-pair}
use Rattle.tokens.proofs.quantifier.brace_form.Goals as goal

-- the digits of the first number stand in the pattern, and those of the second after them
both-fit : (s : List ℕ) (at : ℕ) (a b : Numeral) → at ≤ length s → a ≡ numeral_of 10 (drop at s) → b ≡ numeral_of 10 (drop (at + a.size + 1) s) → a.size + b.size ≤ length s - at
both-fit s at a b h e f = omega (arith, numeral-fits 10 s at a e, numeral-fits 10 s (at + a.size + 1) b f)

pub overflow_add-comma : goal.overflow_add-comma
overflow_add-comma c = omega (arith, numeral-fits 10 c.args.s.now c.args.at (numeral c.decimal_at-a.result) c.decimal_at-a.ensures)

pub overflow_add-size : goal.overflow_add-size
overflow_add-size c = omega (
  arith,
  both-fit c.args.s.now c.args.at (numeral c.decimal_at-a.result) (numeral c.decimal_at-b.result) c.requires c.decimal_at-a.ensures
      c.decimal_at-b.ensures,
)

pub overflow_add-size-in-44 : goal.overflow_add-size-in-44
overflow_add-size-in-44 c = omega (
  arith,
  both-fit c.args.s.now c.args.at (numeral c.decimal_at-a.result) (numeral c.decimal_at-b.result) c.requires c.decimal_at-a.ensures
      c.decimal_at-b.ensures,
)

pub overflow_add-b : goal.overflow_add-b
overflow_add-b c = omega (
  arith,
  both-fit c.args.s.now c.args.at (numeral c.decimal_at-a.result) (numeral c.decimal_at-b.result) c.requires c.decimal_at-a.ensures
      c.decimal_at-b.ensures,
)

pub overflow_add-comma-in-44-2 : goal.overflow_add-comma-in-44-2
overflow_add-comma-in-44-2 c = omega (
  arith,
  both-fit c.args.s.now c.args.at (numeral c.decimal_at-a.result) (numeral c.decimal_at-b.result) c.requires c.decimal_at-a.ensures
      c.decimal_at-b.ensures,
)

pub returns-in-Some : goal.returns-in-Some
returns-in-Some c =
    c.bounded_form.ensures
    ∙ sym (braces-closed c.args.s.now c.args.at c.decimal_at-a.result c.peek.result c.decimal_at-a.ensures c.peek.ensures (Some c.in-Some.n) c.in-Some.is c.in-125.is)

pub returns-in-None : goal.returns-in-None
returns-in-None c =
    sym (braces-closed c.args.s.now c.args.at c.decimal_at-a.result c.peek.result c.decimal_at-a.ensures c.peek.ensures None c.in-None.is c.in-125.is)

pub returns-then-peek-ne125 : goal.returns-then-peek-ne125
returns-then-peek-ne125 c =
    sym (braces-unclosed c.args.s.now c.args.at c.decimal_at-a.result c.peek.result c.decimal_at-a.ensures c.peek.ensures
    c.decimal_at-b.result c.peek-in-44.result c.decimal_at-b.ensures c.peek-in-44.ensures c.in-44.is c.if-peek-ne125.true)

pub returns-in_default-Some : goal.returns-in_default-Some
returns-in_default-Some c =
    c.bounded_form-in_default-Some.ensures
    ∙ ap (λ (lo : ℕ). bounded (3 + (c.decimal_at-a.result.size + c.decimal_at-b.result.size)) lo c.in_default-Some.hi) c.unwrap_or.ensures
    ∙ sym (braces-pair c.args.s.now c.args.at c.decimal_at-a.result c.peek.result c.decimal_at-a.ensures c.peek.ensures
    c.decimal_at-b.result c.peek-in-44.result c.decimal_at-b.ensures c.peek-in-44.ensures c.in-44.is
    c.decimal_at-a.result.value (Some c.in_default-Some.hi) refl c.in_default-Some.is-1 c.if-peek-ne125.false)

pub returns-in-Some-None : goal.returns-in-Some-None
returns-in-Some-None c =
    c.open_form.ensures
    ∙ sym (braces-pair c.args.s.now c.args.at c.decimal_at-a.result c.peek.result c.decimal_at-a.ensures c.peek.ensures
    c.decimal_at-b.result c.peek-in-44.result c.decimal_at-b.ensures c.peek-in-44.ensures c.in-44.is
    (Some c.in-Some-None.lo) None c.in-Some-None.is-0 c.in-Some-None.is-1 c.if-peek-ne125.false)

pub returns-in-None-None : goal.returns-in-None-None
returns-in-None-None c =
    sym (braces-pair c.args.s.now c.args.at c.decimal_at-a.result c.peek.result c.decimal_at-a.ensures c.peek.ensures
    c.decimal_at-b.result c.peek-in-44.result c.decimal_at-b.ensures c.peek-in-44.ensures c.in-44.is
    None None c.in-None-None.is-0 c.in-None-None.is-1 c.if-peek-ne125.false)

pub returns-in_default : goal.returns-in_default
returns-in_default c =
    sym (braces-other c.args.s.now c.args.at c.decimal_at-a.result c.peek.result c.decimal_at-a.ensures c.peek.ensures (λ e. omega arith) (λ e. omega arith))
