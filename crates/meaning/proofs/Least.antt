-- The smallest number that has a property: there is one if the property is decided and some number
-- has it, and one only; and of the starts of a match the smallest one is the longest, so the
-- windows of a rule let some start through exactly if they let that one through. And the smallest
-- of a number and of those that have a property, which is what a machine keeps: it is put together
-- part by part. Assumes nothing.
use mathlib.Core.Path.{◌≡◌, sym, subst}
use mathlib.Core.Bool.{Bool, true}
use mathlib.Core.Logic.{◌⊎◌, inl, inr, ◌↔◌}
use Prim.Native.Nat.{ℕ, zero, suc, ◌≤◌, ◌<◌}
use native.Mathlib.Omega.{arith}
use native.Mathlib.Decide.{ℕ_discrete, dec_lt, map_dec}
use lib.Dec.{T}
use Rattle.sets.specs.Set.{smallest}
use Rattle.sets.proofs.Smallest.{smallest-under, smallest-at, smallest-is}
use Rattle.meaning.specs.Rule.{Windows, InWindows}
use Rattle.meaning.specs.Ordered.{Least}
use Rattle.meaning.proofs.Logic.{true-T, dec-both, dec-not, dec-every}

module _ (P : ℕ → Type 0) where
  pub one-least : (s u : ℕ) → Least P s → Least P u → s ≡ u
  one-least s u a b = omega (arith, a.least u b.there, b.least s a.there)

  module _ (dec : (k : ℕ) → Dec (P k)) where
    -- the smallest number below n that has P, or none does
    search-below : (n : ℕ) → ((s : ℕ) × Least P s) ⊎ ((u : ℕ) → u < n → ¬ P u)
    search-below zero = inr (λ u lt. absurd (omega (arith, lt)))
    search-below (suc n) = go (search-below n) (dec n)
      where
        go : ((s : ℕ) × Least P s) ⊎ ((u : ℕ) → u < n → ¬ P u) → Dec (P n) → ((s : ℕ) × Least P s) ⊎ ((u : ℕ) → u < suc n → ¬ P u)
        go (inl x) d = inl x
        go (inr none) (yes p) = inl (n, record { there = p; least = λ u q. above u q (dec_lt u n) })
          where
            above : (u : ℕ) → P u → Dec (u < n) → n ≤ u
            above u q (yes lt) = absurd (none u lt q)
            above u q (no ge) = omega arith
        go (inr none) (no p) = inr (λ u lt q. elim (ℕ_discrete u n) [ yes e ↦ p (subst P e q) | no e ↦ none u (omega arith) q ])

    pub some-least : (n : ℕ) → P n → (s : ℕ) × Least P s
    some-least n p = elim (search-below (suc n)) [ inl x ↦ x | inr none ↦ absurd (none n (omega arith) p) ]

    pub least-dec : (s : ℕ) → Dec (Least P s)
    least-dec s =
        map_dec
        (λ h. record { there = h.0; least = λ u p. above h.1 u p (dec_lt u s) })
        (λ h. (h.there, λ u lt p. omega (arith, h.least u p)))
        (dec-both (dec s) (dec-every (λ u. ¬ P u) s (λ u lt. dec-not (dec u))))
      where
        above : ((u : ℕ) → u < s → ¬ P u) → (u : ℕ) → P u → Dec (u < s) → s ≤ u
        above none u p (yes lt) = absurd (none u lt p)
        above none u p (no ge) = omega arith

-- two properties of the same numbers have the same smallest one
pub least-same : (P Q : ℕ → Type 0) → ((s : ℕ) → P s ↔ Q s) → (s : ℕ) → Least P s ↔ Least Q s
least-same P Q iff s = (
  λ h. record { there = (iff s).0 h.there; least = λ u q. h.least u ((iff u).1 q) },
  λ h. record { there = (iff s).1 h.there; least = λ u p. h.least u ((iff u).0 p) },
)

-- A start further left is longer: the windows let some start through exactly if they let the
-- smallest one through.
pub least-longest : (P : ℕ → Type 0) (w : Windows) (e s : ℕ) → Least P s → ((u : ℕ) × P u × InWindows w u e) ↔ InWindows w s e
least-longest P w e s h = (
  λ x. (x.2.0, x.2.1, omega (arith, x.2.2, h.least x.0 x.1)),
  λ x. (s, h.there, x),
)

-- A rule without a smallest length lets every start through or none.
pub all-or-none : (w : Windows) (e s u : ℕ) → w.smallest_length ≡ 0 → s ≤ e → InWindows w u e → InWindows w s e
all-or-none w e s u short le h = (h.0, h.1, omega arith)

-- ---- the smallest of d and of the numbers that have P

pub record Capped (P : ℕ → Type 0) (d s : ℕ) : Type 0 where
  pub under : s ≤ d
  pub below : (u : ℕ) → P u → s ≤ u
  pub attained : P s ⊎ (s ≡ d)

-- it is the smallest that has P, if one up to d has it
pub capped-least : (P : ℕ → Type 0) (d s : ℕ) → Capped P d s → (u : ℕ) → P u → u ≤ d → Least P s
capped-least P d s h u p le = record { there = go h.attained; least = h.below }
  where
    go : P s ⊎ (s ≡ d) → P s
    go (inl q) = q
    go (inr e) = let q : u ≡ s = omega (arith, h.below u p) in subst P q p

pub capped-none : (P : ℕ → Type 0) (d : ℕ) → ((u : ℕ) → ¬ P u) → Capped P d d
capped-none P d none = record { under = omega arith; below = λ u p. absurd (none u p); attained = inr (omega arith) }

pub capped_same : (P Q : ℕ → Type 0) → ((u : ℕ) → P u ↔ Q u) → (d s : ℕ) → Capped P d s → Capped Q d s
capped_same P Q iff d s h = record {
  under = h.under;
  below = λ u q. h.below u ((iff u).1 q);
  attained = elim h.attained [ inl p ↦ inl ((iff s).0 p) | inr e ↦ inr e ];
}

-- first over those that have P, and from there over those that have Q
pub capped-or : (P Q : ℕ → Type 0) (d s t : ℕ) → Capped P d s → Capped Q s t → Capped (λ u. P u ⊎ Q u) d t
capped-or P Q d s t a b = record {
  under = omega (arith, a.under, b.under);
  below = λ u h. elim h [ inl p ↦ omega (arith, a.below u p, b.under) | inr q ↦ b.below u q ];
  attained = go b.attained a.attained;
}
  where
    go : Q t ⊎ (t ≡ s) → P s ⊎ (s ≡ d) → (P t ⊎ Q t) ⊎ (t ≡ d)
    go (inl q) x = inl (inr q)
    go (inr e) (inl p) = inl (inl (subst P (sym e) p))
    go (inr e) (inr f) = inr (omega arith)

-- over the k below n that a test picks out, each with the smallest number that has Q k
pub smallest-capped : (n : ℕ) (f : ℕ → Bool) (g : ℕ → ℕ) (d : ℕ) (Q : ℕ → ℕ → Type 0) → ((k : ℕ) → k < n → T (f k) → Least (Q k) (g k))
    → Capped (λ u. (k : ℕ) × (k < n) × T (f k) × Q k u) d (smallest n f g d)
smallest-capped n f g d Q least = record {
  under = smallest-under f g d n;
  below = λ u h. omega (arith, smallest-at f g d n h.0 h.1 (true-T (f h.0) h.2), (least h.0 h.1 h.2).least u h.3);
  attained = go (smallest-is f g d n);
}
  where
    go : (smallest n f g d ≡ d) ⊎ ((k : ℕ) × (k < n) × (f k ≡ true) × (smallest n f g d ≡ g k))
        → ((k : ℕ) × (k < n) × T (f k) × Q k (smallest n f g d)) ⊎ (smallest n f g d ≡ d)
    go (inl e) = inr e
    go (inr h) =
        let t : T (f h.0) = subst T (sym h.2) tt in
        inl (h.0, h.1, t, subst (Q h.0) (sym h.3) (least h.0 h.1 t).there)
