-- `stream::scan::side_at` meets its contract: before the first byte of the block stands what stood
-- before it, and before any other the byte that precedes it.
use mathlib.Core.Path.{◌≡◌, refl, ap, ◌∙◌}
use mathlib.Core.List.{List}
use Prim.Native.Nat.{ℕ, zero, suc, ◌-◌}
use native.Mathlib.Omega.{arith}
use lib.ListN.{get_or}
use Rattle.kinds.specs.declared.Side.{Side}
use Rattle.kinds.specs.Side.{side_of}
use Rattle.stream.specs.Invariants.{side_at}
use Rattle.stream.proofs.scan.side_at.Goals as goal

module _ (before : Side) (block : List ℕ) where
  first : (at : ℕ) → at ≡ 0 → before ≡ side_at before block at
  unfolding side_at
  first zero e = refl
  first (suc k) e = absurd (omega arith)

  later : (at : ℕ) → (at ≡ 0 → ⊥) → side_of (get_or block (at - 1) 0) ≡ side_at before block at
  unfolding side_at
  later zero e = absurd (e refl)
  later (suc k) e =
      let one : suc k - 1 ≡ k = omega arith in
      ap (λ (n : ℕ). side_of (get_or block n 0)) one

pub overflow_sub-at : goal.overflow_sub-at
overflow_sub-at c =
    let c-if1 = c.if-at-eq0 in
    omega (arith, c-if1.false)

pub bounds-block-at : goal.bounds-block-at
bounds-block-at c =
    let c-start = c in
    let c-if1 = c.if-at-eq0 in
    omega (arith, c-start.requires, c-if1.false)

pub returns-then-at-eq0 : goal.returns-then-at-eq0
returns-then-at-eq0 c =
    let c-start = c in
    let c-if1 = c.if-at-eq0 in
    first c-start.args.before c-start.args.block.now c-start.args.at c-if1.true

pub returns-else-at-eq0 : goal.returns-else-at-eq0
returns-else-at-eq0 c =
    let c-side-of = c.side_of in
    let c-start = c in
    let c-if1 = c.if-at-eq0 in
    c-side-of.ensures ∙ later c-start.args.before c-start.args.block.now c-start.args.at c-if1.false
