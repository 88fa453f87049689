-- Raw control bytes, as the function finds them: the bytes of a token are looked at one after the
-- other, and the first raw one settles its fault.
use mathlib.Core.Path.{◌≡◌, refl, sym, ap}
use mathlib.Core.Bool.{Bool, true, false, cond, ◌||◌}
use mathlib.Core.List.{List, [], ◌∷◌}
use Prim.Native.Nat.{ℕ, ◌≤◌, ◌<◌, min}
use native.Mathlib.Omega.{arith}
use borrow.Author.Tests.{eqb-true, eqb-false, ne_eqb}
use lib.Dec.{eqb}
use lib.ListN.{take}
use Rattle.std.specs.List.{list_any}
use Rattle.kinds.specs.Kind.{is_cntrl}
use Rattle.refusals.specs.declared.Refusal.{Refusal}
use Rattle.refusals.specs.Refusal.{number_of}
use Rattle.refusals.proofs.Laws.{number-above}
use Rattle.atoms.specs.Fault.{lower}
use Rattle.atoms.specs.Raw.{any_raw, with_raw}

-- no second fault
pub lower-none : (f : ℕ) → lower f 0 ≡ f
unfolding lower
lower-none f = go (eqb f 0) refl
  where
    go : (b : Bool) → eqb f 0 ≡ b → cond b 0 f ≡ f
    go true e = sym (eqb-true f 0 e)
    go false e = refl

-- the lower of two numbers, neither of which is 0
pub lower-is-first : (a b : ℕ) → (a ≡ 0 → ⊥) → (b ≡ 0 → ⊥) → a ≤ b → lower a b ≡ a
unfolding lower
lower-is-first a b n m h = rw (ne_eqb a 0 n, ne_eqb b 0 m) (omega arith)

pub lower-is-second : (a b : ℕ) → (a ≡ 0 → ⊥) → (b ≡ 0 → ⊥) → b < a → lower a b ≡ b
unfolding lower
lower-is-second a b n m h = rw (ne_eqb a 0 n, ne_eqb b 0 m) (omega arith)

-- the lower of two reasons
pub lower-first : (a b : Refusal) → number_of a ≤ number_of b → lower (number_of a) (number_of b) ≡ number_of a
lower-first a b = lower-is-first (number_of a) (number_of b) (omega (arith, number-above a)) (omega (arith, number-above b))

pub lower-second : (a b : Refusal) → number_of b < number_of a → lower (number_of a) (number_of b) ≡ number_of b
lower-second a b = lower-is-second (number_of a) (number_of b) (omega (arith, number-above a)) (omega (arith, number-above b))

-- where the lower of two faults is none, neither is one
pub lower-both : (f g : ℕ) → lower f g ≡ 0 → (f ≡ 0) × (g ≡ 0)
unfolding lower
lower-both f g e = go (eqb f 0) refl e
  where
    more : (b : Bool) → eqb g 0 ≡ b → (f ≡ 0 → ⊥) → cond b f (min f g) ≡ 0 → (f ≡ 0) × (g ≡ 0)
    more true z n h = absurd (n h)
    more false z n h = let m : g ≡ 0 → ⊥ = eqb-false g 0 z in absurd (omega arith)

    go : (b : Bool) → eqb f 0 ≡ b → cond b g (cond (eqb g 0) f (min f g)) ≡ 0 → (f ≡ 0) × (g ≡ 0)
    go true z h = (eqb-true f 0 z, h)
    go false z h = more (eqb g 0) refl (eqb-false f 0 z) h

-- a token without a fault has none besides, and no raw byte
pub raw-besides : (fault size : ℕ) (v : List ℕ) → with_raw fault size v ≡ 0 → fault ≡ 0
unfolding with_raw
raw-besides fault size v e = (lower-both fault (cond (any_raw (take size v)) 23 0) e).0

pub raw-absent : (fault size : ℕ) (v : List ℕ) → with_raw fault size v ≡ 0 → any_raw (take size v) ≡ false
unfolding with_raw
raw-absent fault size v e = go (any_raw (take size v)) (lower-both fault (cond (any_raw (take size v)) 23 0) e).1
  where
    go : (b : Bool) → ◌≡◌ {A = ℕ} (cond b 23 0) 0 → b ≡ false
    go true e = absurd (omega arith)
    go false e = refl

pub raw-none : (fault : ℕ) (v : List ℕ) → with_raw fault 0 v ≡ fault
unfolding with_raw any_raw
raw-none fault v = lower-none fault

pub any-is : (v : List ℕ) → any_raw v ≡ list_any is_cntrl v
unfolding any_raw
any-is [] = refl
any-is (b ∷ v) = ap (λ (t : Bool). is_cntrl b || t) (any-is v)
