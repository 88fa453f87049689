-- `tokens::option::letters` meets its contract. The invariant: the letters from i on, under the
-- options so far, give the token that is asked for, and `size` is in step with i. A letter's place
-- is inside, so the measure, what is left of the bytes, falls.
use mathlib.Core.Path.{refl, sym, ◌∙◌}
use native.Mathlib.Omega.{arith}
use Rattle.atoms.proofs.Suffixes.{inside}
use Rattle.tokens.proofs.Letters.{letters-i, letters-s, letters-m, letters-off, letters-twice, letters-set, letters-open, letters-other}
use Rattle.tokens.proofs.option.letters.Goals as goal

pub loop-caseless-init : goal.loop-caseless-init
loop-caseless-init c = (c.requires, omega arith, refl)

pub loop-caseless-smaller-in-105 : goal.loop-caseless-smaller-in-105
loop-caseless-smaller-in-105 c =
    let s = c.args.s.now in
    omega (arith, inside s c.loop-caseless.i (λ z. omega (arith, c.peek-c.ensures)))

pub loop-caseless-preserved-in-105 : goal.loop-caseless-preserved-in-105
loop-caseless-preserved-in-105 c =
    let l = c.loop-caseless in
    let s = c.args.s.now in
    let peek = c.peek-c in
    let inv = l.invariant in
    let here = inside s l.i (λ z. omega (arith, peek.ensures)) in (
      omega arith,
      omega (arith, inv.1),
      sym (letters-i l.on l.any _ l.size s l.i peek.result peek.ensures c.in-105.is)
          ∙ inv.2,
    )

pub loop-caseless-smaller-in-115 : goal.loop-caseless-smaller-in-115
loop-caseless-smaller-in-115 c =
    let s = c.args.s.now in
    omega (arith, inside s c.loop-caseless.i (λ z. omega (arith, c.peek-c.ensures)))

pub loop-caseless-preserved-in-115 : goal.loop-caseless-preserved-in-115
loop-caseless-preserved-in-115 c =
    let l = c.loop-caseless in
    let s = c.args.s.now in
    let peek = c.peek-c in
    let inv = l.invariant in
    let here = inside s l.i (λ z. omega (arith, peek.ensures)) in (
      omega arith,
      omega (arith, inv.1),
      sym (letters-s l.on l.any _ l.size s l.i peek.result peek.ensures c.in-115.is)
          ∙ inv.2,
    )

pub loop-caseless-smaller-in-109 : goal.loop-caseless-smaller-in-109
loop-caseless-smaller-in-109 c =
    let s = c.args.s.now in
    omega (arith, inside s c.loop-caseless.i (λ z. omega (arith, c.peek-c.ensures)))

pub loop-caseless-preserved-in-109 : goal.loop-caseless-preserved-in-109
loop-caseless-preserved-in-109 c =
    let l = c.loop-caseless in
    let s = c.args.s.now in
    let peek = c.peek-c in
    let inv = l.invariant in
    let here = inside s l.i (λ z. omega (arith, peek.ensures)) in (
      omega arith,
      omega (arith, inv.1),
      sym (letters-m l.on l.any _ l.size s l.i peek.result peek.ensures c.in-109.is)
          ∙ inv.2,
    )

pub returns-then-not-on : goal.returns-then-not-on
returns-then-not-on c =
    let l = c.loop-caseless in
    let s = c.args.s.now in
    let peek = c.peek-c in
    let inv = l.invariant in
    c.refused.ensures
    ∙ sym
    (letters-twice l.on l.any _ l.size s l.i peek.result peek.ensures c.in-45.is
    c.if-not-on.true)
    ∙ inv.2

pub loop-caseless-smaller : goal.loop-caseless-smaller
loop-caseless-smaller c =
    let s = c.args.s.now in
    let l = c.loop-caseless in
    omega (arith, inside s l.i (λ z. omega (arith, c.peek-c.ensures)))

pub loop-caseless-preserved : goal.loop-caseless-preserved
loop-caseless-preserved c =
    let l = c.loop-caseless in
    let s = c.args.s.now in
    let peek = c.peek-c in
    let inv = l.invariant in
    let here = inside s l.i (λ z. omega (arith, peek.ensures)) in (
      omega arith,
      omega (arith, inv.1),
      sym
          (letters-off l.on l.any _ l.size s l.i peek.result peek.ensures c.in-45.is c.if-not-on.false)
          ∙ inv.2,
    )

pub returns-in-41 : goal.returns-in-41
returns-in-41 c =
    let l = c.loop-caseless in
    let s = c.args.s.now in
    let peek = c.peek-c in
    let inv = l.invariant in
    c.lettered.ensures ∙ sym (letters-set l.on l.any _ l.size s l.i peek.result peek.ensures c.in-41.is) ∙ inv.2

pub returns-in-58 : goal.returns-in-58
returns-in-58 c =
    let l = c.loop-caseless in
    let s = c.args.s.now in
    let peek = c.peek-c in
    let inv = l.invariant in
    c.lettered-in-58.ensures
    ∙ sym (letters-open l.on l.any _ l.size s l.i peek.result peek.ensures c.in-58.is)
    ∙ inv.2

pub returns-in_default : goal.returns-in_default
returns-in_default c =
    let l = c.loop-caseless in
    let s = c.args.s.now in
    let peek = c.peek-c in
    let inv = l.invariant in
    let other = c.in_default.in_default-own.rest in
    c.refused-in_default.ensures
    ∙ sym
    (letters-other l.on l.any _ l.size s l.i peek.result peek.ensures other.0.0.0.0.0.1 other.0.0.0.0.1
    other.0.0.0.1 other.0.0.1 other.0.1 other.1)
    ∙ inv.2
