-- A word's digits one by one, the lowest first.
use Rattle.std.specs.Prelude.{◌≡◌, ℕ, ◌-◌, ◌^◌, ◌<◌, MatchOption, Option}
use Rattle.std.specs.Int.Bits.{bit_and}
use Rattle.std.specs.Int.Count.{count_trailing_zeros}

-- From the word w, of 64 digits, r is the place of the lowest digit that is 1, and v the word with
-- that digit cleared; where no digit is 1, there is none, and v is 0 as well.
abbrev pub GivesLowest : (w : ℕ) → (r : Option ℕ) → (v : ℕ) → Type 0
GivesLowest w r v =
    MatchOption r ((w ≡ 0) × (v ≡ 0))
    (λ k. (0 < w) × (w < 2 ^ 64) × (k < 64) × (k ≡ count_trailing_zeros 64 w) × (v ≡ bit_and w (w - 1)))
