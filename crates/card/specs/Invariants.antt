-- What the private functions promise one another. No public contract cites it.
use Rattle.std.specs.Prelude.{cond, ◌≡◌, List, ℕ, ◌+◌, ◌-◌, ◌*◌, ◌/◌, ◌%◌, ◌<◌, ltb, get_or, take}
use Rattle.table.specs.Invariants.{over}
use Rattle.card.specs.Bytes.{byte_of, number_at}
use Rattle.card.specs.Crc.{crc32, crc_bits}
use Rattle.card.specs.Block.{block_bytes, payload_at, crc_at, first_word, words_in, used_in}

-- the rule of the CRC's table: entry i is what eight bits make of i
unfoldable pub Ruled : List ℕ → Type 0
Ruled t = (i : ℕ) → i < 256 → get_or t i 0 ≡ crc_bits 8 i

-- byte k of block i of a table, before the CRC
unfoldable pub front_byte : List ℕ → (i k : ℕ) → ℕ
front_byte t i k =
    cond (ltb k 2) (byte_of i k)
    (cond (ltb k payload_at) (byte_of (used_in i) (k - 2))
    (cond (ltb (k - payload_at) (used_in i)) (byte_of (get_or t (first_word i + (k - payload_at) / 8) 0) ((k - payload_at) % 8)) 0))

-- a block with every byte before the CRC written
abbrev pub front_put : List ℕ → ℕ → List ℕ → List ℕ
front_put t i b = over 0 crc_at (front_byte t i) b

-- a block with the CRC of what stands before it written
abbrev pub crc_put : List ℕ → List ℕ
crc_put b = over crc_at block_bytes (λ k. byte_of (crc32 (take crc_at b)) (k - crc_at)) b

-- words with those of block i written
abbrev pub payload_put : List ℕ → ℕ → List ℕ → List ℕ
payload_put u i b = over (first_word i) (first_word i + words_in i) (λ w. number_at b (payload_at + (w - first_word i) * 8) 8) u
