-- `classes::classes::class_at` meets its contract: after the marks stands `^`, outside a quote, or
-- not.
use mathlib.Core.Bool.{false, and-eq-true_iff}
use Prim.Native.Nat.{◌+◌}
use native.Mathlib.Omega.{arith}
use borrow.Author.Tests.{eqb-true}
use Rattle.atoms.proofs.Suffixes.{inside}
use Rattle.atoms.proofs.Gaps.{gap-size}
use Rattle.classes.proofs.Ranges.{class-is}
use Rattle.classes.proofs.classes.class_at.Goals as goal

pub overflow_add-from : goal.overflow_add-from
overflow_add-from c =
    let args = c.args in
    let s = args.s.now in
    let at = args.at in
    let gap_at = c.gap_at-g in
    omega (arith, gap-size false s at gap_at.result gap_at.ensures)

pub overflow_add-from-then-peek-g : goal.overflow_add-from-then-peek-g
overflow_add-from-then-peek-g c =
    let args = c.args in
    let s = args.s.now in
    let at = args.at in
    let peek = c.peek in
    let gap_at = c.gap_at-g in
    let hat = eqb-true peek.result 94 ((and-eq-true_iff _ _).0 c.if-peek-g.true).0 in
    omega (arith, inside s (at + gap_at.result.size) (λ z. omega (arith, peek.ensures)))

pub returns-then-peek-g : goal.returns-then-peek-g
returns-then-peek-g c =
    let args = c.args in
    let s = args.s.now in
    let at = args.at in
    let gap_at = c.gap_at-g in
    let peek = c.peek in
    rw (
      class-is args.caseless s at gap_at.result peek.result gap_at.ensures peek.ensures,
      c.if-peek-g.true,
    ) c.members_at.ensures

pub returns : goal.returns
returns c =
    let args = c.args in
    let s = args.s.now in
    let at = args.at in
    let gap_at = c.gap_at-g in
    let peek = c.peek in
    rw (
      class-is args.caseless s at gap_at.result peek.result gap_at.ensures peek.ensures,
      c.if-peek-g.false,
    ) c.members_at-2.ensures
