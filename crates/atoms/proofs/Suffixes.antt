-- The bytes from a place on. A place inside the pattern has a byte and the bytes after it; a place
-- past the end has none, and reads as 0. So a byte other than 0 shows that its place is inside.
use mathlib.Core.Path.{◌≡◌, ap, ◌∙◌}
use mathlib.Core.List.{List, ◌∷◌}
use Prim.Native.Nat.{ℕ, ◌+◌, ◌<◌}
use native.Mathlib.Decide.{dec_lt}
use native.Mathlib.Numerals.{add-one}
use native.Mathlib.Omega.{arith}
use lib.ListN.{length, get_or, drop, get_or-eq_default}
use lib.Seq.{drop-cons, get_or-drop}

module _ (s : List ℕ) (at : ℕ) where
  pub front : at < length s → drop at s ≡ get_or s at 0 ∷ drop (at + 1) s
  front h = rw (add-one, drop-cons s at 0)

  pub first : get_or (drop at s) 0 0 ≡ get_or s at 0
  first = let same : at + 0 ≡ at = omega arith in get_or-drop at s 0 0 ∙ ap (λ (k : ℕ). get_or s k 0) same

  pub inside : (get_or s at 0 ≡ 0 → ⊥) → at < length s
  inside h = go (dec_lt at (length s))
    where
      go : Dec (at < length s) → at < length s
      go (yes l) = l
      go (no l) = absurd (h (get_or-eq_default s 0 (omega arith)))
