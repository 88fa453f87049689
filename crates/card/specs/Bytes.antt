-- Numbers as bytes: "All little-endian", the lowest byte first. Assumes nothing: these are
-- definitions.
use Rattle.std.specs.Prelude.{List, [], ◌∷◌, ℕ, zero, suc, ◌+◌, ◌*◌, ◌/◌, ◌%◌, ◌^◌, get_or}

-- f 0, f 1, .., f (n - 1)
unfoldable pub list_of : ℕ → (ℕ → ℕ) → List ℕ
list_of zero f = []
list_of (suc n) f = f zero ∷ list_of n (λ k. f (suc k))

-- byte j of a number; byte 0 is the lowest
abbrev pub byte_of : (x j : ℕ) → ℕ
byte_of x j = x / 2 ^ (8 * j) % 256

-- a number as n bytes
unfoldable pub bytes_of : (n x : ℕ) → List ℕ
bytes_of n x = list_of n (byte_of x)

-- the number whose n bytes stand at `at`
unfoldable pub number_at : List ℕ → (at n : ℕ) → ℕ
number_at s at zero = 0
number_at s at (suc n) = get_or s at 0 + number_at s (suc at) n * 256
