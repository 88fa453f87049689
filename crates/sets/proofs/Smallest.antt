-- The smallest of a number and of those that a test picks out: it is none of them that is larger,
-- and one of them. Assumes nothing.
use mathlib.Core.Path.{◌≡◌, refl, sym, ap, ◌∙◌}
use mathlib.Core.Logic.{◌⊎◌, inl, inr}
use mathlib.Core.Bool.{Bool, true, false, cond, true≢false}
use Prim.Native.Nat.{ℕ, zero, suc, ◌≤◌, ◌<◌, min}
use native.Mathlib.Omega.{arith}
use native.Mathlib.Decide.{ℕ_discrete, dec_le}
use Rattle.sets.specs.Set.{smallest}

module _ (f : ℕ → Bool) (g : ℕ → ℕ) (d : ℕ) where
  pub smallest-under : (n : ℕ) → smallest n f g d ≤ d
  unfolding smallest
  smallest-under zero = omega arith
  smallest-under (suc n) = go (f n) (smallest-under n)
    where
      go : (b : Bool) → smallest n f g d ≤ d → cond b (min (g n) (smallest n f g d)) (smallest n f g d) ≤ d
      go true h = omega arith
      go false h = h

  pub smallest-at : (n k : ℕ) → k < n → f k ≡ true → smallest n f g d ≤ g k
  unfolding smallest
  smallest-at zero k lt e = absurd (omega arith)
  smallest-at (suc n) k lt e = go (λ l. smallest-at n k l e) (ℕ_discrete k n) (f n) refl
    where
      go : (k < n → smallest n f g d ≤ g k) → Dec (k ≡ n) → (b : Bool) → f n ≡ b → cond b (min (g n) (smallest n f g d)) (smallest n f g d) ≤ g k
      go ih (yes q) true p = let same : g k ≡ g n = ap g q in omega arith
      go ih (yes q) false p = absurd (true≢false (sym e ∙ ap f q ∙ p))
      go ih (no q) true p = let h = ih (omega arith) in omega arith
      go ih (no q) false p = ih (omega arith)

  pub smallest-is : (n : ℕ) → (smallest n f g d ≡ d) ⊎ ((k : ℕ) × (k < n) × (f k ≡ true) × (smallest n f g d ≡ g k))
  unfolding smallest
  smallest-is zero = inl refl
  smallest-is (suc n) = go (f n) refl (smallest-is n)
    where
      rest : (smallest n f g d ≡ d) ⊎ ((k : ℕ) × (k < n) × (f k ≡ true) × (smallest n f g d ≡ g k)) → (m : ℕ) → m ≡ smallest n f g d
          → (m ≡ d) ⊎ ((k : ℕ) × (k < suc n) × (f k ≡ true) × (m ≡ g k))
      rest (inl h) m q = inl (q ∙ h)
      rest (inr h) m q = inr (h.0, omega (arith, h.1), h.2, q ∙ h.3)

      go : (b : Bool) → f n ≡ b → (smallest n f g d ≡ d) ⊎ ((k : ℕ) × (k < n) × (f k ≡ true) × (smallest n f g d ≡ g k))
          → (cond b (min (g n) (smallest n f g d)) (smallest n f g d) ≡ d)
          ⊎ ((k : ℕ) × (k < suc n) × (f k ≡ true) × (cond b (min (g n) (smallest n f g d)) (smallest n f g d) ≡ g k))
      go true p h = elim (dec_le (g n) (smallest n f g d)) [
        | yes le ↦ inr (n, omega arith, p, omega arith)
        | no gt ↦ rest h (min (g n) (smallest n f g d)) (omega arith)
      ]
      go false p h = rest h (smallest n f g d) refl
