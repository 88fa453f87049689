-- Small laws of logic for the other files: Bool tests as propositions, equivalences, and what is
-- decidable. Assumes nothing.
use mathlib.Core.Path.{◌≡◌, refl, sym, subst}
use mathlib.Core.Logic.{◌⊎◌, inl, inr, ◌↔◌}
use mathlib.Core.Bool.{Bool, true, false, ◌&&◌, ◌||◌}
use Prim.Native.Nat.{ℕ, zero, suc, ◌<◌}
use native.Mathlib.Omega.{arith}
use native.Mathlib.Decide.{ℕ_discrete}
use lib.Dec.{T, eqb, eqb→eq, eqb_refl}

pub and_T : (a b : Bool) → T (a && b) ↔ (T a × T b)
and_T true b = (λ h. (tt, h), λ h. h.1)
and_T false b = (λ h. absurd h, λ h. h.0)

pub or-T : (a b : Bool) → T (a || b) ↔ (T a ⊎ T b)
or-T true b = (λ h. inl tt, λ h. tt)
or-T false b = (λ h. inr h, λ h. elim h [ inl x ↦ absurd x | inr y ↦ y ])

pub eq-T : (m n : ℕ) → T (eqb m n) ↔ (m ≡ n)
eq-T m n = (λ h. eqb→eq m n h, λ e. subst (λ (x : ℕ). T (eqb m x)) e (eqb_refl m))

pub true-T : (b : Bool) → T b → b ≡ true
true-T true h = refl
true-T false h = absurd h

pub false-T : (b : Bool) → ¬ T b → b ≡ false
false-T true h = absurd (h tt)
false-T false h = refl

-- two tests with the same truth are one
pub same-T : (a b : Bool) → T a ↔ T b → a ≡ b
same-T true b h = sym (true-T b (h.0 tt))
same-T false b h = sym (false-T b h.1)

pub iff-both : {A B : Type 0} (a b : Bool) → T a ↔ A → T b ↔ B → T (a && b) ↔ (A × B)
iff-both a b p q = (λ h. let g = (and_T a b).0 h in (p.0 g.0, q.0 g.1), λ h. (and_T a b).1 (p.1 h.0, q.1 h.1))

pub iff-either : {A B : Type 0} (a b : Bool) → T a ↔ A → T b ↔ B → T (a || b) ↔ (A ⊎ B)
iff-either a b p q = (
  λ h. elim ((or-T a b).0 h) [ inl x ↦ inl (p.0 x) | inr y ↦ inr (q.0 y) ],
  λ h. (or-T a b).1 (elim h [ inl x ↦ inl (p.1 x) | inr y ↦ inr (q.1 y) ]),
)

pub dec-T : (b : Bool) → Dec (T b)
dec-T true = yes tt
dec-T false = no (λ h. h)

pub dec-both : {A B : Type 0} → Dec A → Dec B → Dec (A × B)
dec-both (yes a) (yes b) = yes (a, b)
dec-both (yes a) (no n) = no (λ h. n h.1)
dec-both (no n) d = no (λ h. n h.0)

pub dec-either : {A B : Type 0} → Dec A → Dec B → Dec (A ⊎ B)
dec-either (yes a) d = yes (inl a)
dec-either (no n) (yes b) = yes (inr b)
dec-either (no n) (no m) = no (λ h. elim h [ inl a ↦ n a | inr b ↦ m b ])

pub dec-not : {A : Type 0} → Dec A → Dec (¬ A)
dec-not (yes a) = no (λ n. n a)
dec-not (no n) = yes n

pub dec-implies : {A B : Type 0} → Dec A → Dec B → Dec (A → B)
dec-implies (no n) d = yes (λ a. absurd (n a))
dec-implies (yes a) (yes b) = yes (λ _. b)
dec-implies (yes a) (no n) = no (λ f. n (f a))

-- some number below n has P; every number below n has it
pub dec_some : (P : ℕ → Type 0) (n : ℕ) → ((k : ℕ) → k < n → Dec (P k)) → Dec ((k : ℕ) × (k < n) × P k)
dec_some P zero d = no (λ h. omega (arith, h.1))
dec_some P (suc n) d = go (d n (omega arith)) (dec_some P n (λ k lt. d k (omega arith)))
  where
    go : Dec (P n) → Dec ((k : ℕ) × (k < n) × P k) → Dec ((k : ℕ) × (k < suc n) × P k)
    go (yes p) r = yes (n, omega arith, p)
    go (no p) (yes r) = yes (r.0, omega (arith, r.1), r.2)
    go (no p) (no r) = no (λ h. elim (ℕ_discrete h.0 n) [
      | yes e ↦ p (subst P e h.2)
      | no e ↦ r (h.0, omega (arith, h.1), h.2)
    ])

pub dec-every : (P : ℕ → Type 0) (n : ℕ) → ((k : ℕ) → k < n → Dec (P k)) → Dec ((k : ℕ) → k < n → P k)
dec-every P n d = go (dec_some (λ k. ¬ P k) n (λ k lt. dec-not (d k lt)))
  where
    settle : (k : ℕ) → Dec (P k) → ¬ ¬ P k → P k
    settle k (yes p) h = p
    settle k (no p) h = absurd (h p)

    go : Dec ((k : ℕ) × (k < n) × (¬ P k)) → Dec ((k : ℕ) → k < n → P k)
    go (yes h) = no (λ all. h.2 (all h.0 h.1))
    go (no h) = yes (λ k lt. settle k (d k lt) (λ p. h (k, lt, p)))
