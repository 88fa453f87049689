-- `tokens::quantifier::form_at` meets its contract: the byte at the place is `?`, `*`, `+`, an
-- opening brace, or none of them.
use native.Mathlib.Omega.{arith}
use borrow.Author.Tests.{ne_eqb}
use Rattle.atoms.proofs.Suffixes.{inside}
use Rattle.tokens.proofs.Forms.{form-is}
use Rattle.tokens.proofs.quantifier.form_at.Goals as goal

pub overflow_add-at : goal.overflow_add-at
overflow_add-at c =
    let args = c.args in
    let s = args.s.now in
    let at = args.at in
    omega (arith, inside s at (λ z. omega (arith, c.peek-c.ensures)))

pub brace_form-requires : goal.brace_form-requires
brace_form-requires c =
    let args = c.args in
    let s = args.s.now in
    let at = args.at in
    omega (arith, inside s at (λ z. omega (arith, c.peek-c.ensures)))

pub returns-in-63 : goal.returns-in-63
returns-in-63 c =
    let args = c.args in
    let s = args.s.now in
    let at = args.at in
    let peek = c.peek-c in
    rw (form-is s at peek.result peek.ensures, c.in-63.is) c.sound_form.ensures

pub returns-in-42 : goal.returns-in-42
returns-in-42 c =
    let args = c.args in
    let s = args.s.now in
    let at = args.at in
    let peek = c.peek-c in
    rw (form-is s at peek.result peek.ensures, c.in-42.is) c.sound_form-in-42.ensures

pub returns-in-43 : goal.returns-in-43
returns-in-43 c =
    let args = c.args in
    let s = args.s.now in
    let at = args.at in
    let peek = c.peek-c in
    rw (form-is s at peek.result peek.ensures, c.in-43.is) c.sound_form-in-43.ensures

pub returns-in-123 : goal.returns-in-123
returns-in-123 c =
    let args = c.args in
    let s = args.s.now in
    let at = args.at in
    let peek = c.peek-c in
    rw (form-is s at peek.result peek.ensures, c.in-123.is) c.brace_form.ensures

pub returns-in_default : goal.returns-in_default
returns-in_default c =
    let args = c.args in
    let s = args.s.now in
    let at = args.at in
    let peek = c.peek-c in
    let other = c.in_default.in_default-own.rest in
    rw (
      form-is s at peek.result peek.ensures,
      ne_eqb _ _ other.0.0.0.1,
      ne_eqb _ _ other.0.0.1,
      ne_eqb _ _ other.0.1,
      ne_eqb _ _ other.1,
    )
