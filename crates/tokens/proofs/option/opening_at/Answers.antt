-- `tokens::option::opening_at` meets its contract: the bytes at the place and after it decide.
use mathlib.Core.Path.{refl}
use Prim.Native.Nat.{◌+◌}
use native.Mathlib.Omega.{arith}
use borrow.Author.Tests.{eq-eqb, ne_eqb}
use lib.ListN.{get_or}
use Rattle.atoms.proofs.Suffixes.{inside}
use Rattle.tokens.proofs.Letters.{opening-is}
use Rattle.tokens.proofs.option.opening_at.Goals as goal

pub returns-then-c-eq42 : goal.returns-then-c-eq42
returns-then-c-eq42 c =
    let args = c.args in
    let s = args.s.now in
    let at = args.at in
    let peek = c.peek-c in
    rw (
      opening-is args.options s at peek.result (get_or s (at + 1) 0) peek.ensures refl,
      eq-eqb _ 42 c.if-c-eq42.true,
    ) c.refused.ensures

pub overflow_add-at : goal.overflow_add-at
overflow_add-at c =
    let args = c.args in
    let s = args.s.now in
    let at = args.at in
    omega (arith, inside s at (λ z. omega (arith, c.peek-c.ensures)))

pub returns-then-d-eq58 : goal.returns-then-d-eq58
returns-then-d-eq58 c =
    let args = c.args in
    let s = args.s.now in
    let at = args.at in
    let peek = c.peek-c in
    let peek2 = c.peek-d in
    rw (
      opening-is args.options s at peek.result peek2.result peek.ensures peek2.ensures,
      ne_eqb _ 42 c.if-c-eq42.false,
      eq-eqb _ 63 c.if-c-eq63.true,
      eq-eqb _ 58 c.if-d-eq58.true,
    ) c.plain.ensures

pub overflow_add-at-then-d-eq35 : goal.overflow_add-at-then-d-eq35
overflow_add-at-then-d-eq35 c =
    let args = c.args in
    let s = args.s.now in
    let at = args.at in
    omega (arith, inside s (at + 1) (λ z. omega (arith, c.peek-d.ensures)))

pub comment-requires : goal.comment-requires
comment-requires c =
    let args = c.args in
    let s = args.s.now in
    let at = args.at in
    omega (arith, inside s (at + 1) (λ z. omega (arith, c.peek-d.ensures)))

pub returns-then-d-eq35 : goal.returns-then-d-eq35
returns-then-d-eq35 c =
    let args = c.args in
    let s = args.s.now in
    let at = args.at in
    let peek = c.peek-c in
    let peek2 = c.peek-d in
    rw (
      opening-is args.options s at peek.result peek2.result peek.ensures peek2.ensures,
      ne_eqb _ 42 c.if-c-eq42.false,
      eq-eqb _ 63 c.if-c-eq63.true,
      ne_eqb _ 58 c.if-d-eq58.false,
      eq-eqb _ 35 c.if-d-eq35.true,
    ) c.comment.ensures

pub overflow_add-at-then-c-eq63 : goal.overflow_add-at-then-c-eq63
overflow_add-at-then-c-eq63 c =
    let args = c.args in
    let s = args.s.now in
    let at = args.at in
    omega (arith, inside s at (λ z. omega (arith, c.peek-c.ensures)))

pub letters-requires : goal.letters-requires
letters-requires c =
    let args = c.args in
    let s = args.s.now in
    let at = args.at in
    omega (arith, inside s at (λ z. omega (arith, c.peek-c.ensures)))

pub returns-then-c-eq63 : goal.returns-then-c-eq63
returns-then-c-eq63 c =
    let args = c.args in
    let s = args.s.now in
    let at = args.at in
    let peek = c.peek-c in
    let peek2 = c.peek-d in
    rw (
      opening-is args.options s at peek.result peek2.result peek.ensures peek2.ensures,
      ne_eqb _ 42 c.if-c-eq42.false,
      eq-eqb _ 63 c.if-c-eq63.true,
      ne_eqb _ 58 c.if-d-eq58.false,
      ne_eqb _ 35 c.if-d-eq35.false,
    ) c.letters.ensures

pub returns : goal.returns
returns c =
    let args = c.args in
    let s = args.s.now in
    let at = args.at in
    let peek = c.peek-c in
    rw (
      opening-is args.options s at peek.result (get_or s (at + 1) 0) peek.ensures refl,
      ne_eqb _ 42 c.if-c-eq42.false,
      ne_eqb _ 63 c.if-c-eq63.false,
    ) c.plain-2.ensures
