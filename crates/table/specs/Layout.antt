-- The words of a rule table, by name; docs/TABLE.md lists them. Assumes nothing: these are
-- definitions.
use Rattle.std.specs.Prelude.{ℕ, ◌+◌, ◌*◌, ◌/◌, ◌%◌, Bool, ◌&&◌, List, nat_le, nat_lt, slice_index}
use Rattle.sets.specs.Set.{on}

-- "The table becomes 16,384 words"; "words beyond are never touched." "Raise the rules in a table
-- to 64"; "Positions in a table: 256."
abbrev pub table_words : ℕ
table_words = 16384

abbrev pub max_rules : ℕ
max_rules = 64

abbrev pub max_positions : ℕ
max_positions = 256

-- "Subjects and patterns are bytes."
abbrev pub bytes : ℕ
bytes = 256

-- word 0 marks a rule table of this format: the bytes `watcher7` as a number
abbrev pub format : ℕ
format = 0x77617463_68657237

-- the number of rules, and of positions
abbrev pub rules_of : List ℕ → ℕ
rules_of t = slice_index t 1

abbrev pub positions_of : List ℕ → ℕ
positions_of t = slice_index t 2

-- the single-match rules: a binary digit for each rule's place
abbrev pub singles_of : List ℕ → ℕ
singles_of t = slice_index t 3

-- for each gap at which a match can end the four-word set of positions that can end one there
abbrev pub last_at : ℕ → ℕ
last_at g = 4 + g * 4

-- the set of the positions with which a match can end only where the next byte allows it
abbrev pub lates_at : ℕ
lates_at = 56

-- for each gap the set of the positions that can take the first byte of a match after it
abbrev pub first_at : ℕ → ℕ
first_at g = 60 + g * 4

-- the rules' ids, rising: the rule in place a has the one at `id_at a`
abbrev pub id_at : ℕ → ℕ
id_at a = 128 + a

abbrev pub id_word : List ℕ → ℕ → ℕ
id_word t a = slice_index t (id_at a)

-- for each byte a word that is not 0 where a match can begin with it inside a stream
abbrev pub opener_at : ℕ → ℕ
opener_at x = 192 + x

-- for each position the place of its rule
abbrev pub owner_at : ℕ → ℕ
owner_at p = 448 + p

-- the rules that report the leftmost start: a binary digit for each rule's place
abbrev pub leftmosts_at : ℕ
leftmosts_at = 704

abbrev pub leftmosts_of : List ℕ → ℕ
leftmosts_of t = slice_index t leftmosts_at

-- the set of the positions that keep a start
abbrev pub keepers_at : ℕ
keepers_at = 712

-- the rules with a window of end offsets, a binary digit for each rule's place; for each place the
-- smallest and the largest end offset of such a rule
abbrev pub windowed_at : ℕ
windowed_at = 706

abbrev pub windowed_of : List ℕ → ℕ
windowed_of t = slice_index t windowed_at

abbrev pub lowest_at : ℕ → ℕ
lowest_at a = 768 + a

abbrev pub highest_at : ℕ → ℕ
highest_at a = 832 + a

-- a word that is not 0 where a rule has a smallest length of its matches; for each position that of
-- its rule, 0 where it has none
abbrev pub lengths_at : ℕ
lengths_at = 707

abbrev pub lengths_of : List ℕ → ℕ
lengths_of t = slice_index t lengths_at

abbrev pub shortest_at : ℕ → ℕ
shortest_at q = 896 + q

-- for each byte the set of positions that take it; for each gap between two bytes and each position
-- the set of those that can follow it there
abbrev pub takers_at : ℕ → ℕ
takers_at x = 4096 + x * 4

abbrev pub follow_at : ℕ → ℕ → ℕ
follow_at g p = 5120 + g * 1024 + p * 4

-- q is in the set whose four words stand at `at`; a list reads as 0 past its end
unfoldable pub row_has : List ℕ → ℕ → ℕ → Bool
row_has t at q = nat_lt q max_positions && on (slice_index t (at + q / 64)) (q % 64)

-- w is one of lo, lo + 1, .. below hi
abbrev pub from_to : (lo hi w : ℕ) → Bool
from_to lo hi w = nat_le lo w && nat_lt w hi
