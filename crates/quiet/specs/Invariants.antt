-- What the private functions promise, where that is not an equation with a definition that a reader
-- must believe. Assumes nothing: these are definitions.
use Rattle.std.specs.Prelude.{◌≡◌, List, ℕ, ◌-◌, ◌<◌, ◌≤◌, get_or}

-- a place from `from` on, at most `to`, before which no newline stands, unless it is `from`
pub record BackOver (block : List ℕ) (from to r : ℕ) : Type 0 where
  pub rises : from ≤ r
  pub inside : r ≤ to
  pub other : from < r → ¬ (get_or block (r - 1) 0 ≡ 10)
