-- `atoms::escape::escape_at` meets its contract: the pattern ends, or its next byte is no letter or
-- digit, or one of the four that take more bytes, or another.
use mathlib.Core.Path.{sym, ◌∙◌}
use native.Mathlib.Omega.{arith}
use Rattle.atoms.proofs.Escapes.{escape_end, escape-literal, escape-x, escape-o, escape-0, escape-c, escape-other}
use Rattle.atoms.proofs.escape.escape_at.Goals as goal

pub returns-then-s-at : goal.returns-then-s-at
returns-then-s-at c =
    let args = c.args in
    let s = args.s.now in
    let at = args.at in
    c.faulty.ensures ∙ sym (escape_end s at args.inside c.if-s-at.true)

pub returns-then-not-is_alnum : goal.returns-then-not-is_alnum
returns-then-not-is_alnum c =
    let args = c.args in
    let s = args.s.now in
    let at = args.at in
    c.sound.ensures
    ∙ sym (escape-literal s at args.inside (omega arith) (sym c.is_alnum.ensures ∙ c.if-not-is_alnum.true))

pub returns-in-120 : goal.returns-in-120
returns-in-120 c =
    let args = c.args in
    let s = args.s.now in
    let at = args.at in
    c.hex.ensures ∙ sym (escape-x s at args.inside (omega arith) c.in-120.is)

pub returns-in-111 : goal.returns-in-111
returns-in-111 c =
    let args = c.args in
    let s = args.s.now in
    let at = args.at in
    c.octal.ensures ∙ sym (escape-o s at args.inside (omega arith) c.in-111.is)

pub returns-in-48 : goal.returns-in-48
returns-in-48 c =
    let args = c.args in
    let s = args.s.now in
    let at = args.at in
    c.short.ensures ∙ sym (escape-0 s at args.inside (omega arith) c.in-48.is)

pub returns-in-99 : goal.returns-in-99
returns-in-99 c =
    let args = c.args in
    let s = args.s.now in
    let at = args.at in
    c.control.ensures ∙ sym (escape-c s at args.inside (omega arith) c.in-99.is)

pub returns-in_default : goal.returns-in_default
returns-in_default c =
    let args = c.args in
    let match = c.in_default in
    let s = args.s.now in
    let at = args.at in
    let is-alnum = c.is_alnum in
    let if2 = c.if-not-is_alnum in
    let other = match.in_default-own.rest in
    rw (
      escape-other s at args.inside (omega arith) (sym is-alnum.ensures ∙ if2.false) other.0.0.0.1 other.0.0.1
          other.0.1 other.1,
      ← c.placed_escape.ensures,
      ← c.type_escape.ensures,
    ) c.named_escape.ensures
