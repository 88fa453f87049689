-- Small laws that the other files share: tests taken apart, `||` as the code runs it, the right side
-- only where the left is false, and one run of stores after another. Assumes nothing.
use mathlib.Core.Path.{◌≡◌, refl, ap, ◌∙◌}
use mathlib.Core.Bool.{Bool, true, false, ◌||◌}
use mathlib.Core.List.{List, [], ◌∷◌, ◌++◌}
use Prim.Native.Nat.{ℕ, suc, ◌+◌}
use native.Mathlib.Omega.{arith}
use native.Mathlib.Nat.{add-zero}
use lib.ListN.{length, set}
use lib.Seq.{sets}
pub use Rattle.atoms.proofs.Sizes.{either}

-- by whether a test holds
pub split : {G : Type 0} (b : Bool) → (b ≡ true → G) → (b ≡ false → G) → G
split true f g = f refl
split false f g = g refl

pub or-first : {p r b : Bool} (q : Bool) → b ≡ true → true ≡ p → (p || q) ≡ r → b ≡ r
or-first q e f g = e ∙ ap (λ v. v || q) f ∙ g

pub or-second : {p q r b : Bool} → b ≡ q → false ≡ p → (p || q) ≡ r → b ≡ r
or-second {p} {q} e f g = e ∙ ap (λ v. v || q) f ∙ g

pub sets-append : (xs ys l : List ℕ) (i : ℕ) → sets l i (xs ++ ys) ≡ sets (sets l i xs) (i + length xs) ys
sets-append [] ys l i = rw add-zero
sets-append (x ∷ xs) ys l i =
    let e : suc i + length xs ≡ i + suc (length xs) = omega arith in
    sets-append xs ys (set l i x) (suc i) ∙ ap (λ (k : ℕ). sets (sets (set l i x) (suc i) xs) k ys) e
