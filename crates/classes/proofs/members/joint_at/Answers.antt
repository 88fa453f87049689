-- `classes::members::joint_at` meets its contract: the marks before and after the hyphen, and the
-- bytes that follow them, decide. They stand in the pattern, so no sum wraps.
use mathlib.Core.Bool.{true, false}
use Prim.Native.Nat.{◌+◌}
use native.Mathlib.Omega.{arith}
use Rattle.atoms.proofs.Gaps.{gap-size}
use Rattle.classes.proofs.Ranges.{joint-told}
use Rattle.classes.proofs.members.joint_at.Goals as goal

pub overflow_add-hyphen : goal.overflow_add-hyphen
overflow_add-hyphen c =
    let args = c.args in
    let s = args.s.now in
    let at = args.at in
    let gap_at = c.gap_at-g in
    omega (arith, c.requires, gap-size args.quoted s at gap_at.result gap_at.ensures)

pub overflow_add-hyphen-2 : goal.overflow_add-hyphen-2
overflow_add-hyphen-2 c =
    let args = c.args in
    let s = args.s.now in
    let at = args.at in
    let gap_at = c.gap_at-g in
    omega (arith, c.requires, gap-size args.quoted s at gap_at.result gap_at.ensures)

pub overflow_add-size : goal.overflow_add-size
overflow_add-size c =
    let args = c.args in
    let s = args.s.now in
    let at = args.at in
    let gap_at = c.gap_at-g in
    let gap-at2 = c.gap_at-h in
    omega (
      arith,
      c.requires,
      gap-size false s (at + gap_at.result.size + 1) gap-at2.result gap-at2.ensures,
    )

pub overflow_add-size-2 : goal.overflow_add-size-2
overflow_add-size-2 c =
    let args = c.args in
    let s = args.s.now in
    let at = args.at in
    let gap_at = c.gap_at-g in
    let gap-at2 = c.gap_at-h in
    omega (
      arith,
      c.requires,
      gap-size args.quoted s at gap_at.result gap_at.ensures,
      gap-size false s (at + gap_at.result.size + 1) gap-at2.result gap-at2.ensures,
    )

pub overflow_add-at : goal.overflow_add-at
overflow_add-at c =
    let args = c.args in
    let s = args.s.now in
    let at = args.at in
    let gap_at = c.gap_at-g in
    let gap-at2 = c.gap_at-h in
    omega (
      arith,
      c.requires,
      gap-size args.quoted s at gap_at.result gap_at.ensures,
      gap-size false s (at + gap_at.result.size + 1) gap-at2.result gap-at2.ensures,
    )

pub overflow_sub-rest : goal.overflow_sub-rest
overflow_sub-rest c = c.requires

pub returns-then-is : goal.returns-then-is
returns-then-is c =
    joint-told c.args.s.now c.args.at c.args.quoted c.gap_at-g.result c.gap_at-h.result c.peek.result c.peek-last.result true
    c.gap_at-g.ensures c.gap_at-h.ensures c.peek.ensures c.peek-last.ensures c.if-is.true

pub returns : goal.returns
returns c =
    joint-told c.args.s.now c.args.at c.args.quoted c.gap_at-g.result c.gap_at-h.result c.peek.result c.peek-last.result false
    c.gap_at-g.ensures c.gap_at-h.ensures c.peek.ensures c.peek-last.ensures c.if-is.false
