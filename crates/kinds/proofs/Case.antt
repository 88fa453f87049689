-- The other case of a byte, by what its kinds say: each arm of the definition, and the ranges that
-- keep the arms within a byte.
use mathlib.Core.Path.{◌≡◌}
use mathlib.Core.Bool.{true, false, and-eq-true_iff}
use Prim.Native.Nat.{ℕ, ◌+◌, ◌-◌, ◌≤◌}
use borrow.Author.Tests.{leb-true}
use lib.Dec.{leb}
use Rattle.kinds.specs.Kind.{within, is_lower, is_upper}
use Rattle.kinds.specs.Case.{other_case}

pub within-true : (lo hi b : ℕ) → within lo hi b ≡ true → (lo ≤ b) × (b ≤ hi)
within-true lo hi b e =
    let both = (and-eq-true_iff (leb lo b) (leb b hi)).0 e in
    (leb-true lo b both.0, leb-true b hi both.1)

module _ (b : ℕ) where
  pub lower-range : is_lower b ≡ true → (97 ≤ b) × (b ≤ 122)
  unfolding is_lower
  lower-range l = within-true 97 122 b l

  pub upper-range : is_upper b ≡ true → (65 ≤ b) × (b ≤ 90)
  unfolding is_upper
  upper-range u = within-true 65 90 b u

  pub of-lower : is_lower b ≡ true → other_case b ≡ b - 32
  unfolding other_case
  of-lower l = rw l

  pub of-upper : is_lower b ≡ false → is_upper b ≡ true → other_case b ≡ b + 32
  unfolding other_case
  of-upper l u = rw (l, u)

  pub of_other : is_lower b ≡ false → is_upper b ≡ false → other_case b ≡ b
  unfolding other_case
  of_other l u = rw (l, u)
