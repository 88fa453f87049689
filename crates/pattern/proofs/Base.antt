-- Small laws that the other files share: tests taken apart, and truth values. Assumes nothing.
use mathlib.Core.Path.{◌≡◌, ap, ◌∙◌}
use mathlib.Core.Bool.{Bool, true, false}
use mathlib.Core.Logic.{◌⊎◌, inl, inr}
use Prim.Native.Nat.{ℕ, ◌≤◌, ◌<◌}
use native.Mathlib.Omega.{arith}
use borrow.Author.Tests.{ltb-true, ltb-false, eqb-true, eqb-false}
use lib.Dec.{ltb, eqb}
pub use Rattle.nodes.proofs.Base.{either, split}

pub by-lt : (m n : ℕ) → (m < n) ⊎ (n ≤ m)
by-lt m n = split (ltb m n) (λ e. inl (ltb-true m n e)) (λ e. inr (ltb-false m n e))

pub by-eq : (m n : ℕ) → (m ≡ n) ⊎ (m ≡ n → ⊥)
by-eq m n = split (eqb m n) (λ e. inl (eqb-true m n e)) (λ e. inr (eqb-false m n e))

pub true-not-false : {A : Type 0} (b : Bool) → b ≡ true → b ≡ false → A
true-not-false b p q = absurd (let z : ◌≡◌ {A = ℕ} 0 1 = cc in omega arith)

-- a byte that is k is not j
pub byte-not : (c k j : ℕ) → eqb c k ≡ true → eqb k j ≡ false → eqb c j ≡ false
byte-not c k j e h = ap (λ (b : ℕ). eqb b j) (eqb-true c k e) ∙ h
