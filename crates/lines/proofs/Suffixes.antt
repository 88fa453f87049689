-- The suffix of a list at a place is what a loop over a slice has still to read. A definition that
-- goes by a list's first element takes one step there at each turn of the loop; so it is with the
-- end of a line.
use mathlib.Core.Path.{◌≡◌}
use mathlib.Core.List.{List, ◌∷◌}
use Prim.Native.Nat.{ℕ, ◌+◌, ◌≤◌, ◌<◌}
use native.Mathlib.Omega.{arith}
use native.Mathlib.Numerals.{add-one}
use borrow.Author.Tests.{eq-eqb, ne_eqb}
use lib.ListN.{length, get_or, drop, drop_of_length-le}
use lib.Seq.{drop-cons}
use Rattle.lines.specs.Lines.{line_length, line_end}

-- the element at hand, and the next suffix
pub drop-next : (s : List ℕ) (at : ℕ) → at < length s → drop at s ≡ get_or s at 0 ∷ drop (at + 1) s
drop-next s at h = rw (add-one, drop-cons s at 0)

-- where the line read from `at` on ends: here past the text's end and at a newline, and else where
-- the line from the next place does
module _ (s : List ℕ) (at : ℕ) where
  pub end-past : length s ≤ at → at ≡ line_end s at
  unfolding line_length
  end-past h = rw (drop_of_length-le s h) (omega arith)

  pub end-here : at < length s → get_or s at 0 ≡ 10 → at ≡ line_end s at
  unfolding line_length
  end-here h e = rw (drop-next s at h, eq-eqb (get_or s at 0) 10 e) (omega arith)

  pub end_later : at < length s → (get_or s at 0 ≡ 10 → ⊥) → line_end s (at + 1) ≡ line_end s at
  unfolding line_length
  end_later h n = rw (drop-next s at h, ne_eqb (get_or s at 0) 10 n) (omega arith)
