-- `classes::members::bracket` meets its contract: the byte at the place opens a name, or is one of
-- two that are refused, or another.
use native.Mathlib.Omega.{arith}
use borrow.Author.Tests.{ne_eqb}
use Rattle.atoms.proofs.Suffixes.{inside}
use Rattle.classes.proofs.Ranges.{bracket-is}
use Rattle.classes.proofs.members.bracket.Goals as goal

pub overflow_add-at : goal.overflow_add-at
overflow_add-at c =
    let args = c.args in
    let s = args.s.now in
    let at = args.at in
    omega (arith, inside s at (λ z. omega (arith, c.peek-c.ensures)))

pub name_at-requires : goal.name_at-requires
name_at-requires c =
    let args = c.args in
    let s = args.s.now in
    let at = args.at in
    omega (arith, inside s at (λ z. omega (arith, c.peek-c.ensures)))

pub returns-in-58 : goal.returns-in-58
returns-in-58 c =
    let args = c.args in
    let s = args.s.now in
    let at = args.at in
    let peek = c.peek-c in
    rw (bracket-is s at args.caseless peek.result peek.ensures, c.in-58.is) c.name_at.ensures

pub returns-in-46 : goal.returns-in-46
returns-in-46 c =
    let args = c.args in
    let s = args.s.now in
    let at = args.at in
    let peek = c.peek-c in
    rw (bracket-is s at args.caseless peek.result peek.ensures, c.in-46.is) c.faulty.ensures

pub returns-in-61 : goal.returns-in-61
returns-in-61 c =
    let args = c.args in
    let s = args.s.now in
    let at = args.at in
    let peek = c.peek-c in
    rw (bracket-is s at args.caseless peek.result peek.ensures, c.in-61.is) c.faulty-in-61.ensures

pub returns-in_default : goal.returns-in_default
returns-in_default c =
    let args = c.args in
    let s = args.s.now in
    let at = args.at in
    let peek = c.peek-c in
    let other = c.in_default.in_default-own.rest in
    rw (
      bracket-is s at args.caseless peek.result peek.ensures,
      ne_eqb _ _ other.0.0.1,
      ne_eqb _ _ other.0.1,
      ne_eqb _ _ other.1,
    ) c.sound.ensures
