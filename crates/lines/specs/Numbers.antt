-- Numbers in decimal, and how many bytes may still be asked for. Assumes nothing: these are
-- definitions.
use Rattle.std.specs.Prelude.{cond, List, [], ◌∷◌, ◌++◌, ℕ, zero, suc, ◌+◌, ◌-◌, ◌/◌, ◌%◌, min, ltb, length, replicate}
use Rattle.stream.specs.Valid.{stream_limit}
use Rattle.lines.specs.declared.Decimal.{Decimal}

-- the digits of n, of which there are at most `most`, first the highest
unfoldable pub decimal_within : (most n : ℕ) → List ℕ
decimal_within zero n = []
decimal_within (suc m) n = cond (ltb n 10) ((48 + n) ∷ []) (decimal_within m (n / 10) ++ ((48 + n % 10) ∷ []))

-- a 64-bit number has at most 20 digits
unfoldable pub decimal_of : ℕ → List ℕ
decimal_of n = decimal_within 20 n

-- the digits at the front of 20 bytes, and how many they are
unfoldable pub written : ℕ → Decimal
written n = record { digits = decimal_of n ++ replicate (20 - length (decimal_of n)) 0; size = length (decimal_of n) }

-- "Input past the stream limit isn't read": with so many bytes taken and so much room, how many may
-- be asked for
unfoldable pub askable : (taken room : ℕ) → ℕ
askable taken room = min room (stream_limit - taken)
