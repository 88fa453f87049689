-- `atoms::escape::short` meets its contract: neither, one or both of two bytes are digits.
use Rattle.std.proofs.Common.{sym, ◌∙◌, arith}
use Rattle.atoms.proofs.Digits.{in-digit, digit-inside}
use Rattle.atoms.proofs.Escapes.{short_none, short-one, short-two}
use Rattle.atoms.proofs.escape.short.Goals as goal

pub returns-in_default : goal.returns-in_default
returns-in_default c =
    let args = c.args in
    c.sound.ensures ∙ sym (short_none args.base c.requires.1 args.s.now args.at (sym c.in_default.ensures))

pub overflow_add-at : goal.overflow_add-at
overflow_add-at c =
    let args = c.args in
    omega (arith, digit-inside args.s.now args.at, in-digit args.base _ c.in-Some.high (sym c.in-Some.ensures))

pub returns-in_default-digit_at : goal.returns-in_default-digit_at
returns-in_default-digit_at c =
    let args = c.args in
    c.sound-in_default-digit_at.ensures
    ∙ sym (short-one args.base c.requires.1 args.s.now args.at c.in-Some.high (sym c.in-Some.ensures) (sym c.in_default-digit_at.ensures))

pub returns : goal.returns
returns c =
    let args = c.args in
    c.sound-2.ensures
    ∙ sym (short-two args.base c.requires.1 args.s.now args.at c.in-Some.high (sym c.in-Some.ensures) c.in-Some-digit_at.low (sym c.in-Some-digit_at.ensures))
