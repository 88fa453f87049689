-- The two calls: the answer of each, and every lent byte or word afterwards. Assumes nothing: these
-- are definitions.
use Rattle.std.specs.Prelude.{Bool, Result, Ok, Err, cond, ◌&&◌, List, ◌++◌, ℕ, ◌+◌, ◌-◌, ◌*◌, eqb, ltb, length, get_or, take, drop}
use Rattle.table.specs.Layout.{table_words}
use Rattle.table.specs.Table.{all, is_table}
use Rattle.card.specs.Bytes.{list_of, number_at}
use Rattle.card.specs.Crc.{crc32}
use Rattle.card.specs.Block.{block_bytes, payload_at, payload_bytes, crc_at, blocks, first_word, words_in, used_in, image_of}
use Rattle.refusals.specs.Refusal.{number_of}
use Rattle.card.specs.declared.Misplaced.{Misplaced}

-- an answer: 0 at 0, or the refusal's number and place
pub record Stored : Type 0 where
  pub number : ℕ
  pub place : ℕ

abbrev pub answer : (number place : ℕ) → Stored
answer number place = record { number = number; place = place }

-- what the call gives, as such an answer
abbrev pub stored_of : {T : Type 0} → Result T Misplaced → Stored
stored_of (Ok x) = answer 0 0
stored_of (Err m) = answer (number_of m.refusal) m.place

-- "a lent block not of 512 bytes, or a block number past the last, is 27"
unfoldable pub fits : ℕ → List ℕ → Bool
fits i b = eqb (length b) block_bytes && ltb i blocks

-- ---- writing

-- "1 comes first", then 27; "Every 27 has the block number asked for as its place, 1 has 0."
unfoldable pub write_answer : List ℕ → ℕ → List ℕ → Stored
write_answer t i b = cond (is_table t) (cond (fits i b) (answer 0 0) (answer 27 i)) (answer 1 0)

-- the lent block afterwards: that of the table, or as it was
unfoldable pub written_block : List ℕ → ℕ → List ℕ → List ℕ
written_block t i b = cond (eqb (write_answer t i b).number 0) (image_of t i) b

-- ---- reading

-- "a wrong number or used count or nonzero filler likewise", and "any one changed byte": by the CRC
unfoldable pub is_block : ℕ → List ℕ → Bool
is_block i b =
    fits i b
    && (eqb (number_at b 0 2) i
    && (eqb (number_at b 2 2) (used_in i)
    && (all (payload_bytes - used_in i) (λ k. eqb (get_or b (payload_at + used_in i + k) 0) 0)
    && eqb (number_at b crc_at 4) (crc32 (take crc_at b)))))

-- "1 comes first (for the reader only too few words)"
unfoldable pub read_answer : List ℕ → ℕ → List ℕ → Stored
read_answer u i b = cond (ltb (length u) table_words) (answer 1 0) (cond (is_block i b) (answer 0 0) (answer 27 i))

-- the words with those of block i taken from its payload, every other as it was
unfoldable pub with_block : List ℕ → ℕ → List ℕ → List ℕ
with_block u i b = take (first_word i) u ++ (list_of (words_in i) (λ j. number_at b (payload_at + j * 8) 8) ++ drop (first_word i + words_in i) u)

-- "A refused call leaves the lent table as it found it"
unfoldable pub read_words : List ℕ → ℕ → List ℕ → List ℕ
read_words u i b = cond (eqb (read_answer u i b).number 0) (with_block u i b) u
