-- The least number of a kind, as a mark says it: `none` where no number below `none` is of the
-- kind. Assumes nothing.
use mathlib.Core.Path.{◌≡◌, sym, subst}
use mathlib.Core.Logic.{◌⊎◌, inl, inr, ◌↔◌}
use mathlib.Core.Bool.{Bool, true, false}
use Prim.Native.Nat.{ℕ, min, ◌≤◌, ◌<◌}
use native.Mathlib.Omega.{arith}
use native.Mathlib.Decide.{dec_lt}
use lib.Dec.{T}
use Rattle.marks.specs.Marks.{none, when}

pub record Least (P : ℕ → Type 0) (x : ℕ) : Type 0 where
  pub found : x < none → P x
  pub least : (s : ℕ) → P s → x ≤ s

pub least_iff : {P Q : ℕ → Type 0} {x : ℕ} → ((s : ℕ) → P s ↔ Q s) → Least P x → Least Q x
least_iff {P} {Q} {x} iff l = record { found = λ h. (iff x).0 (l.found h); least = λ s q. l.least s ((iff s).1 q) }

pub least-as : {P : ℕ → Type 0} {x y : ℕ} → y ≡ x → Least P x → Least P y
least-as {P} e l = subst (Least P) (sym e) l

pub least-none : {P : ℕ → Type 0} → ((s : ℕ) → ¬ P s) → Least P none
least-none empty = record { found = λ h. absurd (omega arith); least = λ s p. absurd (empty s p) }

pub least-min : {P Q : ℕ → Type 0} {x y : ℕ} → Least P x → Least Q y → Least (λ s. P s ⊎ Q s) (min x y)
least-min {P} {Q} {x} {y} a b = record {
  found = λ h. pick (dec_lt x y) h;
  least = λ s h. elim h [ inl p ↦ (let l = a.least s p in omega arith) | inr q ↦ (let l = b.least s q in omega arith) ];
}
  where
    pick : Dec (x < y) → min x y < none → P (min x y) ⊎ Q (min x y)
    pick (yes lt) h = let e : x ≡ min x y = omega arith in inl (subst P e (a.found (omega arith)))
    pick (no ge) h = let e : y ≡ min x y = omega arith in inr (subst Q e (b.found (omega arith)))

pub least-cap : {P : ℕ → Type 0} {x : ℕ} → Least P x → Least P (min x none)
least-cap {P} {x} a = record {
  found = λ h. let e : x ≡ min x none = omega arith in subst P e (a.found (omega arith));
  least = λ s p. let l = a.least s p in omega arith;
}

pub least-when : {P : ℕ → Type 0} {B : Type 0} {x : ℕ} (b : Bool) → T b ↔ B → Least P x → Least (λ s. B × P s) (when b x)
unfolding when
least-when true i a = record { found = λ h. (i.0 tt, a.found h); least = λ s p. a.least s p.1 }
least-when false i a = record { found = λ h. absurd (omega arith); least = λ s p. absurd (i.1 p.0) }

pub when-low : (b : Bool) (x : ℕ) → x ≤ none → when b x ≤ none
unfolding when
when-low true x h = h
when-low false x h = omega arith
