-- `traced::reports::relative` meets its contract: both numbers are below 2^63, so they read as they
-- are, and so does their difference.
use mathlib.Core.Path.{◌≡◌, sym, ap, ap₂, subst, ◌∙◌}
use mathlib.Core.Bool.{Bool, true, false, cond}
use Prim.Native.Nat.{ℕ, zero, suc, ◌-◌, ◌^◌, ◌<◌}
use native.Mathlib.Omega.{arith}
use lib.Dec.{ltb}
use lib.IntN.{ℤ, pos, negsuc, ◌-ℤ◌}
use mir.Syntax.{w64}
use mir.Val.{SFits, to_z}
use mir.ValLaws.{to_z_pos, to_z-of_z}
use Rattle.traced.specs.Byte.{none, from}
use Rattle.traced.specs.Calls.{from_offset}
use Rattle.traced.proofs.reports.relative.Goals as goal

difference-fits : (a b : ℕ) → a < 2 ^ 63 → b < 2 ^ 63 → SFits w64 (pos a -ℤ pos b)
difference-fits a zero la lb = record { sfits = omega arith }
difference-fits a (suc b) la lb = go (ltb a (suc b))
  where
    go : (c : Bool) → SFits w64 (cond c (negsuc (suc b - suc a)) (pos (a - suc b)))
    go true = record { sfits = omega arith }
    go false = record { sfits = omega arith }

read : (a b : ℕ) → a < 2 ^ 63 → b < 2 ^ 63 → (to_z w64 a -ℤ to_z w64 b) ≡ (pos a -ℤ pos b)
read a b la lb = ap₂ (λ (x y : ℤ). x -ℤ y) (to_z_pos w64 a la) (to_z_pos w64 b lb)

fits : (a b : ℕ) → a < 2 ^ 63 → b < 2 ^ 63 → SFits w64 (to_z w64 a -ℤ to_z w64 b)
fits a b la lb = subst (SFits w64) (sym (read a b la lb)) (difference-fits a b la lb)

pub overflow_sub-result : goal.overflow_sub-result
overflow_sub-result c =
    let c-start = c in
    let a = c-start.args in
    fits a.start a.first c-start.requires.0 c-start.requires.1

pub returns-then-leftmost : goal.returns-then-leftmost
returns-then-leftmost c =
    let c-if1 = c.if-leftmost in
    let c-start = c in
    let a = c-start.args in
    let p = c-start.requires in
    to_z-of_z w64 (to_z w64 a.start -ℤ to_z w64 a.first) (fits a.start a.first p.0 p.1)
    ∙ read a.start a.first p.0 p.1
    ∙ sym (ap (λ (b : Bool). from_offset a.first (cond b (from a.start) none)) c-if1.true)

pub returns-else-leftmost : goal.returns-else-leftmost
returns-else-leftmost c =
    let c-if1 = c.if-leftmost in
    let c-start = c in
    let a = c-start.args in
    sym (ap (λ (b : Bool). from_offset a.first (cond b (from a.start) none)) c-if1.false)
