-- The answer of an addition, and the words afterwards. Assumes nothing: these are definitions.
use Rattle.std.specs.Prelude.{Bool, cond, not, ◌&&◌, List, ℕ, ◌+◌, eqb, leb, ltb, length}
use Rattle.std.specs.Int.Bits.{bit_and}
use Rattle.sets.specs.Set.{any}
use Rattle.table.specs.Layout.{max_rules, rules_of, positions_of, id_word}
use Rattle.table.specs.Table.{is_table, known_flags}
use Rattle.meaning.specs.Form.{write, positions}
use Rattle.meaning.specs.Count.{limit}
use Rattle.meaning.specs.Rule.{Windows, no_windows}
use Rattle.pattern.specs.Walk.{Read, tree, refused}
use Rattle.pattern.specs.Read.{too_long, read_of, options_of}
use Rattle.pattern.specs.Windows.{empty_window}
use Rattle.rules.specs.Gaps.{parts_at}
use Rattle.rules.specs.Words.{is_single, is_leftmost, added_in}
use Rattle.rules.specs.declared.Added.{Added}

-- what an addition is handed besides the words: "Ids: any 32-bit number", flags, windows, pattern
-- bytes
pub record Addition : Type 0 where
  pub id : ℕ
  pub flags : ℕ
  pub windows : Windows
  pub pattern : List ℕ

abbrev pub addition_in : (id flags : ℕ) → Windows → (pattern : List ℕ) → Addition
addition_in id flags windows pattern =
    record { id = id; flags = flags; windows = windows; pattern = pattern }

-- each "optional per rule": all left out
abbrev pub addition : (id flags : ℕ) (pattern : List ℕ) → Addition
addition id flags pattern = addition_in id flags no_windows pattern

-- what its pattern reads as, under its flags
abbrev pub reading_of : Addition → Read
reading_of a = read_of a.pattern (options_of a.flags)

-- "A refused addition returns its number and a place"
abbrev pub answer : (number place : ℕ) → Added
answer number place = record { number = number; place = place }

-- 2: "a flag bit other than 1, 2, 8", and it lets 4 and 256 through; 3: "id already in the table";
-- 4 and 5: "Raise the rules in a table to 64 and the pattern to 1,024 bytes; refusals 4 and 5 move
-- with them."
unfoldable pub unknown_flag : ℕ → Bool
unknown_flag flags = not (eqb (bit_and flags known_flags) flags)

-- 24: "Flag 256 with flag 8 is refused with 24, checked right after 2, place 0."
unfoldable pub single_start : ℕ → Bool
single_start flags = is_single flags && is_leftmost flags

unfoldable pub has_id : List ℕ → ℕ → Bool
has_id t id = any (rules_of t) (λ a. eqb (id_word t a) id)

-- What the reader refuses is refused. Then 17: "over 256 positions with those in the table", at the
-- pattern's length.
unfoldable pub placed : (used len : ℕ) → Read → Added
placed used len (refused number place) = answer number place
placed used len (tree x) = cond (ltb limit (used + positions (write x))) (answer 17 len) (answer 0 0)

-- "Additions check 1 to 5 in order", 24 right after 2, 26 right after 5, "then read the pattern
-- left to right"; "1 to 5 have place 0"; "An accepted one has place 0."
unfoldable pub add_answer : List ℕ → Addition → Added
add_answer t a =
    cond (is_table t)
    (cond (unknown_flag a.flags) (answer 2 0)
    (cond (single_start a.flags) (answer 24 0)
    (cond (has_id t a.id) (answer 3 0)
    (cond (leb max_rules (rules_of t)) (answer 4 0)
    (cond (too_long a.pattern) (answer 5 0)
    (cond (empty_window a.windows) (answer 26 0)
    (placed (positions_of t) (length a.pattern) (reading_of a))))))))
    (answer 1 0)

-- the words with an accepted rule
unfoldable pub with_rule : List ℕ → Addition → Read → List ℕ
with_rule t a (refused number place) = t
with_rule t a (tree x) = added_in t a.id a.flags a.windows (parts_at x (positions_of t))

-- "A refused addition .. leaves the table as it was." An accepted one puts in what its pattern
-- reads as.
unfoldable pub add_words : List ℕ → Addition → List ℕ
add_words t a = cond (eqb (add_answer t a).number 0) (with_rule t a (reading_of a)) t
