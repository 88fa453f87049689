-- CRC-32, bit by bit: "reflected polynomial EDB88320 hex, all ones at start and end". Assumes
-- nothing: these are definitions.
use Rattle.std.specs.Prelude.{cond, List, [], ◌∷◌, ℕ, zero, suc, ◌/◌, ◌%◌, eqb}
use Rattle.std.specs.Int.Bits.{bit_xor}

-- "reflected polynomial EDB88320 hex"
abbrev pub polynomial : ℕ
polynomial = 0xEDB88320

-- "all ones at start and end"
abbrev pub ones : ℕ
ones = 0xFFFFFFFF

-- one bit: the lowest falls out at the right, and the polynomial is added where it was 1
unfoldable pub crc_bit : ℕ → ℕ
crc_bit x = cond (eqb (x % 2) 1) (bit_xor (x / 2) polynomial) (x / 2)

-- n bits, one after the other
unfoldable pub crc_bits : ℕ → ℕ → ℕ
crc_bits zero x = x
crc_bits (suc n) x = crc_bit (crc_bits n x)

-- one byte: added to the state's lowest eight bits, which then fall out
unfoldable pub crc_byte : (state byte : ℕ) → ℕ
crc_byte state byte = crc_bits 8 (bit_xor state byte)

-- the state after some bytes
unfoldable pub crc_from : ℕ → List ℕ → ℕ
crc_from state [] = state
crc_from state (b ∷ s) = crc_from (crc_byte state b) s

-- the CRC of some bytes
unfoldable pub crc32 : List ℕ → ℕ
crc32 s = bit_xor (crc_from ones s) ones
