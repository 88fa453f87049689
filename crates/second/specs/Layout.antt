-- The words of a second table, by name; docs/SECOND-TABLE.md lists them. Assumes nothing: these are
-- definitions.
use Rattle.std.specs.Prelude.{Bool, cond, ◌&&◌, List, [], ◌∷◌, ℕ, ◌+◌, ◌-◌, ◌*◌, ◌/◌, ◌%◌, eqb, leb, ltb, get_or}
use Rattle.kinds.specs.declared.Side.{Side}
use Rattle.kinds.specs.Side.{side_in, side_word}
use Rattle.table.specs.Layout.{bytes}

-- "Fewer than 32,768 words"
abbrev pub second_words : ℕ
second_words = 32768

-- "the first 64 of them besides the start"
abbrev pub max_entries : ℕ
max_entries = 65

-- ---- the header

-- word 0 marks a second table of this format: the bytes `second1.` as a number
abbrev pub second_format : ℕ
second_format = 0x7365636f_6e64312e

-- the counts of the rule table, and the number of entries
abbrev pub second_rules : List ℕ → ℕ
second_rules c = get_or c 1 0

abbrev pub second_positions : List ℕ → ℕ
second_positions c = get_or c 2 0

abbrev pub entries_of : List ℕ → ℕ
entries_of c = get_or c 3 0

-- by the side of the last byte: the row of an entry at which nothing is live; 0 where there is none
abbrev pub resting_at : Side → ℕ
resting_at side = 4 + side_word side

-- ---- the records of the entries

-- A record has 16 words: the live set, the held set, the rules with a pair that is held, the side
-- of the last byte; the rules that the live set ends whatever follows, and those that it ends
-- before a byte of each side; how many positions are live; and one that is not used.
abbrev pub record_at : ℕ → ℕ
record_at e = 16 + e * 16

abbrev pub words_at : List ℕ → ℕ → List ℕ
words_at c at = get_or c at 0 ∷ get_or c (at + 1) 0 ∷ get_or c (at + 2) 0 ∷ get_or c (at + 3) 0 ∷ []

module _ (c : List ℕ) (e : ℕ) where
  abbrev pub entry_live : List ℕ
  entry_live = words_at c (record_at e)

  abbrev pub entry_held : List ℕ
  entry_held = words_at c (record_at e + 4)

  abbrev pub entry_pending : ℕ
  entry_pending = get_or c (record_at e + 8) 0

  abbrev pub entry_last : Side
  entry_last = side_in (get_or c (record_at e + 9) 0)

  abbrev pub entry_own : ℕ
  entry_own = get_or c (record_at e + 10) 0

  abbrev pub entry_late : Side → ℕ
  entry_late side = get_or c (record_at e + 11 + side_word side) 0

  abbrev pub entry_busy : ℕ
  entry_busy = get_or c (record_at e + 14) 0

-- ---- the rows of the entries

-- A row has a word for each byte. It names the row of the entry that the byte leads to, or none,
-- and it is odd where the byte has to be looked at: it leads to no entry, or a rule ends before it
-- or with it, or nothing is live either before it or after it.
abbrev pub row_at : ℕ → ℕ
row_at e = 4096 + e * 256

abbrev pub no_entry : ℕ
no_entry = 1

-- the number of the row that a word names: 16 for that of entry 0
abbrev pub row_of : (word : ℕ) → ℕ
row_of word = word / 256 % 128

-- whether a word names an entry, of this many, and which
unfoldable pub names_entry : (entries word : ℕ) → Bool
names_entry entries word = leb 16 (row_of word) && ltb (row_of word) (16 + entries)

abbrev pub entry_in : (word : ℕ) → ℕ
entry_in word = row_of word - 16

abbrev pub is_loud : (word : ℕ) → Bool
is_loud word = eqb (word % 2) 1

unfoldable pub target_word : List ℕ → (e x : ℕ) → ℕ
target_word c e x = cond (ltb x bytes) (get_or c (row_at e + x) 0) no_entry
