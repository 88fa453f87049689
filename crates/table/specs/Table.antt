-- Which words are a table, and the one empty table. Assumes nothing: these are definitions.
use Rattle.std.specs.Prelude.{ℕ, zero, suc, pred, ◌^◌, Bool, true, cond, ◌&&◌, List, ◌∷◌, ◌++◌, length, drop, replicate, ◌==◌, nat_le, nat_lt, slice_index}
use Rattle.table.specs.Layout.{table_words, max_rules, max_positions, format, rules_of, positions_of, id_word}

-- "Flags, values from Hyperscan's API reference: 1 caseless, 2 dot matches all, 8 single match."
-- "Add flag 4"; "Add flag 256 (2 lets it through), leftmost start"
abbrev pub known_flags : ℕ
known_flags = 271

-- the least id that the rule in place a may have: "Ids: any 32-bit number, each once", and the ids
-- rise
abbrev pub least_id : List ℕ → ℕ → ℕ
least_id t zero = 0
least_id t (suc a) = suc (id_word t a)

-- an id in order: of 32 bits, and above the one before
unfoldable pub id_ok : List ℕ → ℕ → Bool
id_ok t a = nat_le (least_id t a) (id_word t a) && nat_lt (id_word t a) (2 ^ 32)

-- f holds of each number below n
unfoldable pub all : ℕ → (ℕ → Bool) → Bool
all zero f = true
all (suc n) f = all n f && f n

-- "The table's layout is the team's, written in docs/, with a yes-or-no test for any words": enough
-- words, the format, counts within the limits, ids in order
unfoldable pub is_table : List ℕ → Bool
is_table t =
    nat_le table_words (length t)
    && (slice_index t 0 == format
    && (nat_le (rules_of t) max_rules
    && (nat_le (positions_of t) max_positions
    && all (rules_of t) (id_ok t))))

-- the one empty table
unfoldable pub empty_table : List ℕ
empty_table = format ∷ replicate (pred table_words) 0

-- "Emptying writes the one empty table there and is refused (1) only for too few words."
unfoldable pub empty_number : List ℕ → ℕ
empty_number t = cond (nat_lt (length t) table_words) 1 0

unfoldable pub emptied : List ℕ → List ℕ
emptied t = cond (nat_lt (length t) table_words) t (empty_table ++ drop table_words t)
