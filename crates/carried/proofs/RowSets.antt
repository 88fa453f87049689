-- The members that a set and a row of a table have in common, word by word.
use mathlib.Core.Path.{◌≡◌, refl, ap, ◌∙◌}
use mathlib.Core.Bool.{Bool, true, false, ◌&&◌}
use mathlib.Core.List.{List, [], ◌∷◌}
use Prim.Native.Nat.{ℕ, ◌+◌, ◌^◌, ◌<◌}
use lib.Bits.{bit_and}
use lib.ListN.{get_or}
use mir.Syntax.{w64}
use mir.Val.{Fits}
use Rattle.sets.specs.Set.{has, set_of, intersection_of}
use Rattle.sets.proofs.Laws.{Words, below-four, intersection-words, set_of-ext}
use Rattle.table.specs.Layout.{row_has}
use Rattle.table.proofs.Rows.{row_words}

-- the set comes first or second
pub swapped : (s t : List ℕ) → intersection_of s t ≡ intersection_of t s
unfolding intersection_of
swapped s t = set_of-ext (λ q. has s q && has t q) (λ q. has t q && has s q) (λ q l. turned (has s q) (has t q))
  where
    turned : (a b : Bool) → (a && b) ≡ (b && a)
    turned true true = refl
    turned true false = refl
    turned false true = refl
    turned false false = refl

module _ (t : List ℕ) (at : ℕ) (small : (i : ℕ) → Fits w64 (get_or t i 0)) where
  abbrev row : List ℕ
  row = get_or t at 0 ∷ get_or t (at + 1) 0 ∷ get_or t (at + 2) 0 ∷ get_or t (at + 3) 0 ∷ []

  words_row : Words row
  words_row = record {
    four = refl;
    small = below-four (λ i. get_or row i 0 < 2 ^ 64) (small at).fits (small (at + 1)).fits (small (at + 2)).fits (small (at + 3)).fits;
  }

  pub met-words : (set : List ℕ) → Words set
      → (bit_and (get_or t at 0) (get_or set 0 0) ∷ bit_and (get_or t (at + 1) 0) (get_or set 1 0) ∷ bit_and (get_or t (at + 2) 0) (get_or set 2 0) ∷ bit_and (get_or t (at + 3) 0) (get_or set 3 0) ∷ [])
      ≡ intersection_of (set_of (row_has t at)) set
  met-words set words = intersection-words row set words_row words ∙ ap (λ (s : List ℕ). intersection_of s set) (row_words t at small)
