-- Spaces and tabs at the front of some bytes.
use mathlib.Core.Path.{◌≡◌, refl, ap}
use mathlib.Core.Bool.{Bool, true, false, cond}
use mathlib.Core.List.{List, [], ◌∷◌}
use Prim.Native.Nat.{ℕ, suc, ◌≤◌}
use native.Mathlib.Omega.{arith}
use lib.ListN.{length}
use Rattle.std.specs.List.{take_while}
use Rattle.std.proofs.lemmas.List.Sums.{take_while-cons}
use Rattle.kinds.specs.Kind.{is_blank}
use Rattle.atoms.specs.Number.{blanks}

-- the blanks at the front are the bytes up to the first that is none
pub blanks-are : (v : List ℕ) → blanks v ≡ length (take_while is_blank v)
unfolding blanks
blanks-are [] = refl
blanks-are (b ∷ v) = rw take_while-cons (go (is_blank b) (blanks-are v))
  where
    go : (t : Bool) → blanks v ≡ length (take_while is_blank v) → cond t (suc (blanks v)) 0 ≡ length (cond t (b ∷ take_while is_blank v) [])
    go true h = ap suc h
    go false h = refl

-- the blanks stand in the pattern
pub blanks-fit : (v : List ℕ) → blanks v ≤ length v
unfolding blanks
blanks-fit [] = omega arith
blanks-fit (b ∷ v) = go (is_blank b) (blanks-fit v)
  where
    go : (t : Bool) → blanks v ≤ length v → cond t (suc (blanks v)) 0 ≤ suc (length v)
    go true h = omega arith
    go false h = omega arith
