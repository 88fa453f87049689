-- What the private functions promise, where that is not an equation with a definition that a reader
-- must believe. Assumes nothing: these are definitions.
use Rattle.std.specs.Prelude.{◌≡◌, Bool, not, List, ℕ, ◌+◌, ◌<◌, get_or}
use Rattle.sets.specs.Set.{any}
use Rattle.starts.specs.Order.{start_ok}

-- the n starts from `base` on are 0 if all their binary digits are
abbrev pub NoneIn : (starts : List ℕ) → (base n digits : ℕ) → Type 0
NoneIn starts base n digits = digits ≡ 0 → (k : ℕ) → k < n → get_or starts (base + k) 0 ≡ 0

-- they are in order
unfoldable pub starts_in : (starts : List ℕ) → (base n : ℕ) → (there : ℕ → Bool) → (taken : ℕ) → Bool
starts_in starts base n there taken = not (any n (λ k. not (start_ok (there k) taken (get_or starts (base + k) 0))))
