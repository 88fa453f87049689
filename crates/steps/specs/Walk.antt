-- The walk over the set digits of one word, turn by turn: each turn asks the lowest digit that is
-- left, found by the count of trailing zeros, and clears it. Assumes nothing: these are
-- definitions.
use Rattle.std.specs.Prelude.{◌≡◌, true, ℕ, zero, suc, ◌-◌, ◌<◌}
use Rattle.std.specs.Int.Bits.{bit_and}
use Rattle.std.specs.Int.Count.{ones, count_trailing_zeros}
use Rattle.sets.specs.Set.{on}

-- what is left of the word after n turns
unfoldable pub left : (word n : ℕ) → ℕ
left word zero = word
left word (suc n) = bit_and (left word n) (left word n - 1)

-- the digit that turn n asks, counted from 0
abbrev pub asked : (word n : ℕ) → ℕ
asked word n = count_trailing_zeros 64 (left word n)

-- "the walk asks each set position once, in as many turns as the set has ones": as many turns leave
-- nothing, each asks a set digit, every set digit is asked, and none twice, since they rise
pub record AsksEachOnce (word : ℕ) : Type 0 where
  pub none_left : left word (ones word) ≡ 0
  pub only_set : (n : ℕ) → n < ones word → on word (asked word n) ≡ true
  pub every_set : (k : ℕ) → k < 64 → on word k ≡ true → (n : ℕ) × (n < ones word) × (asked word n ≡ k)
  pub rising : (m n : ℕ) → m < n → n < ones word → asked word m < asked word n
