-- What private functions promise: the test of the ids, and those that write a table. A list with
-- some words given by their index (`over`) says in the crate rules what an addition leaves, too.
use Rattle.std.specs.Prelude.{ℕ, suc, ◌+◌, ◌-◌, ◌^◌, ◌<◌, cond, List, [], ◌∷◌, slice_index}
use Rattle.table.specs.Layout.{from_to}

-- r tells by its size whether an id is of 32 bits and below the next
pub record Unordered (id next r : ℕ) : Type 0 where
  pub told : r < 2 ^ 32 → (id < 2 ^ 32) × (id < next)
  pub small : id < next → next < 2 ^ 32 → r < 2 ^ 32

-- t with g w at each place w from lo on and below hi, where t is the part of a list that begins at
-- place i
unfoldable pub over_from : (i lo hi : ℕ) → (ℕ → ℕ) → List ℕ → List ℕ
over_from i lo hi g [] = []
over_from i lo hi g (x ∷ t) = cond (from_to lo hi i) (g i) x ∷ over_from (suc i) lo hi g t

-- the same for a whole list
unfoldable pub over : (lo hi : ℕ) → (ℕ → ℕ) → List ℕ → List ℕ
over lo hi g t = over_from 0 lo hi g t

-- n words of s, from its first on, at `at`
abbrev pub copied : (at n : ℕ) → (s t : List ℕ) → List ℕ
copied at n s t = over at (at + n) (λ w. slice_index s (w - at)) t

-- the m words from base on, one up
abbrev pub moved_up : (base m : ℕ) → List ℕ → List ℕ
moved_up base m t = over (base + 1) (base + 1 + m) (λ w. slice_index t (w - 1)) t
