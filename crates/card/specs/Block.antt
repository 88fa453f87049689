-- The blocks of a table, byte by byte; docs/CARD.md has them as a table. How many there are and
-- what each holds follows from the table's words. Assumes nothing: these are definitions.
use Rattle.std.specs.Prelude.{List, [], ◌++◌, ℕ, zero, suc, ◌+◌, ◌-◌, ◌*◌, ◌/◌, min, get_or, replicate}
use Rattle.table.specs.Layout.{table_words}
use Rattle.card.specs.Bytes.{bytes_of}
use Rattle.card.specs.Crc.{crc32}

-- "The card is written in blocks of 512 bytes"
abbrev pub block_bytes : ℕ
block_bytes = 512

-- "4-507 payload": 63 words of 8 bytes
abbrev pub payload_at : ℕ
payload_at = 4

abbrev pub payload_bytes : ℕ
payload_bytes = 504

abbrev pub payload_words : ℕ
payload_words = 63

-- "508-511 CRC-32 .. over bytes 0-507"
abbrev pub crc_at : ℕ
crc_at = 508

-- how many blocks a table takes: as many as hold all its words
abbrev pub blocks : ℕ
blocks = (table_words + (payload_words - 1)) / payload_words

-- the first word of block i, and how many words it has: 63, in the last block what is left
abbrev pub first_word : ℕ → ℕ
first_word i = i * payload_words

unfoldable pub words_in : ℕ → ℕ
words_in i = min payload_words (table_words - first_word i)

-- "payload bytes used"
abbrev pub used_in : ℕ → ℕ
used_in i = words_in i * 8

-- n words of t from word w on, as bytes
unfoldable pub word_bytes : List ℕ → (w n : ℕ) → List ℕ
word_bytes t w zero = []
word_bytes t w (suc n) = bytes_of 8 (get_or t w 0) ++ word_bytes t (suc w) n

-- "bytes 0-1 block number from 0, 2-3 payload bytes used, 4-507 payload, zero after the used part"
unfoldable pub front_of : List ℕ → ℕ → List ℕ
front_of t i = bytes_of 2 i ++ (bytes_of 2 (used_in i) ++ (word_bytes t (first_word i) (words_in i) ++ replicate (payload_bytes - used_in i) 0))

-- "508-511 CRC-32 .. over bytes 0-507": block i of the table t
unfoldable pub image_of : List ℕ → ℕ → List ℕ
image_of t i = front_of t i ++ bytes_of 4 (crc32 (front_of t i))
