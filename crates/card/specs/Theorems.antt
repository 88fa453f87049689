-- What is proved of the card, a statement each; proofs/Theorems.antt has the proofs. The calls' own
-- promises are in specs/Calls.antt.
use Rattle.std.specs.Prelude.{◌≡◌, true, ◌⊎◌, ℕ, ◌+◌, ◌-◌, ◌^◌, ◌≤◌, ◌<◌, length, get_or, set, take, drop}
use mathlib.Core.List.{List, [], ◌∷◌, ◌++◌, Memᴰ}
use Rattle.table.specs.Layout.{table_words}
use Rattle.table.specs.Table.{is_table}
use Rattle.card.specs.Bytes.{number_at}
use Rattle.card.specs.Block.{block_bytes, payload_at, payload_bytes, blocks, first_word, words_in, used_in, image_of}
use Rattle.card.specs.Calls.{answer, write_answer, written_block, read_answer, read_words}

-- every byte has 8 bits, every word 64: what the code's types say of lent bytes and words
abbrev pub AreBytes : List ℕ → Type 0
AreBytes s = (j : ℕ) → get_or s j 0 < 2 ^ 8

abbrev pub AreWords : List ℕ → Type 0
AreWords t = (w : ℕ) → get_or t w 0 < 2 ^ 64

-- "16,384 words take 261 blocks, the last with 32 bytes used, all others with 504."
abbrev pub Counts : Type 0
Counts = (blocks ≡ 261) × (used_in 260 ≡ 32) × ((i : ℕ) → i < 260 → used_in i ≡ 504)

-- Each block of a table is written into any block of 512 bytes, whatever that held.
abbrev pub Written : Type 0
Written = (t : List ℕ) → is_table t ≡ true → (i : ℕ) → i < blocks → (b : List ℕ) → length b ≡ block_bytes
    → (write_answer t i b ≡ answer 0 0) × (written_block t i b ≡ image_of t i)

-- Reading a table's block is accepted, and sets the words of that block to the table's and no
-- other.
abbrev pub ReadBack : Type 0
ReadBack = (t u : List ℕ) → AreWords t → table_words ≤ length t → table_words ≤ length u → (i : ℕ) → i < blocks
    → (read_answer u i (image_of t i) ≡ answer 0 0)
    × (read_words u i (image_of t i) ≡ take (first_word i) u ++ (take (words_in i) (drop (first_word i) t) ++ drop (first_word i + words_in i) u))

-- the words after blocks of t are read one by one, in some order
unfoldable pub read_all : (t u order : List ℕ) → List ℕ
read_all t u [] = u
read_all t u (i ∷ order) = read_all t (read_words u i (image_of t i)) order

-- "Reading back gives the table word for word": in any order that has each block, again and again
-- too, and over any words.
abbrev pub ReadBackAll : Type 0
ReadBackAll = (t u order : List ℕ) → AreWords t → table_words ≤ length t → table_words ≤ length u → ((i : ℕ) → i < blocks → Memᴰ i order)
    → read_all t u order ≡ take table_words t ++ drop table_words u

-- "one table has one image": a block that reading accepts is the image of the words that it leaves.
abbrev pub OneImage : Type 0
OneImage = (u b : List ℕ) → AreBytes b → (i : ℕ) → read_answer u i b ≡ answer 0 0 → b ≡ image_of (read_words u i b) i

-- And one image has one table: tables with the same blocks have the same words.
abbrev pub OneTable : Type 0
OneTable = (t s : List ℕ) → AreWords t → AreWords s → table_words ≤ length t → table_words ≤ length s
    → ((i : ℕ) → i < blocks → image_of t i ≡ image_of s i) → take table_words t ≡ take table_words s

-- "a wrong number or used count or nonzero filler likewise": one wrong part is enough, whatever the
-- CRC says
abbrev pub WrongPart : Type 0
WrongPart = (u : List ℕ) (i : ℕ) (b : List ℕ) → table_words ≤ length u
    → (number_at b 0 2 ≡ i → ⊥)
    ⊎ ((number_at b 2 2 ≡ used_in i → ⊥)
    ⊎ ((k : ℕ) × (k < payload_bytes - used_in i) × (get_or b (payload_at + used_in i + k) 0 ≡ 0 → ⊥)))
    → read_answer u i b ≡ answer 27 i

-- "any one changed byte is refused with 27", those of the CRC included
abbrev pub ChangedByte : Type 0
ChangedByte = (t u : List ℕ) → table_words ≤ length u → (i k b : ℕ) → i < blocks → k < block_bytes → b < 2 ^ 8 → (b ≡ get_or (image_of t i) k 0 → ⊥)
    → read_answer u i (set (image_of t i) k b) ≡ answer 27 i

-- A refused call leaves what it was lent.
abbrev pub WriteKept : Type 0
WriteKept = (t : List ℕ) (i : ℕ) (b : List ℕ) → (write_answer t i b ≡ answer 0 0 → ⊥) → written_block t i b ≡ b

abbrev pub ReadKept : Type 0
ReadKept = (u : List ℕ) (i : ℕ) (b : List ℕ) → (read_answer u i b ≡ answer 0 0 → ⊥) → read_words u i b ≡ u

-- "words beyond are never touched": what is written does not depend on them, and reading leaves
-- them
abbrev pub WriteLocal : Type 0
WriteLocal = (t s : List ℕ) → take table_words t ≡ take table_words s → (i : ℕ) (b : List ℕ)
    → (write_answer t i b ≡ write_answer s i b) × (written_block t i b ≡ written_block s i b)

abbrev pub ReadLocal : Type 0
ReadLocal = (u : List ℕ) (i : ℕ) (b : List ℕ) → drop table_words (read_words u i b) ≡ drop table_words u
