-- The test of a second table beside its rule table, and what a build leaves. Assumes nothing: these
-- are definitions.
use Rattle.std.specs.Prelude.{Bool, cond, not, ◌&&◌, List, ℕ, eqb, leb, ltb, length, get_or}
use Rattle.sets.specs.Set.{on, has, any, size_of}
use Rattle.kinds.specs.declared.Side.TheVariants.{Other, Word, Newline}
use Rattle.table.specs.Layout.{max_positions, rules_of, positions_of}
use Rattle.table.specs.Table.{all, is_table}
use Rattle.table.specs.Automaton.{automaton}
use Rattle.table.specs.Invariants.{over}
use Rattle.second.specs.Layout.{second_words, second_format, second_rules, second_positions, max_entries, entries_of, entry_live, entry_held, entry_pending, entry_own, entry_late, entry_busy}
use Rattle.second.specs.Entries.{entries, second_word}

-- every member of a set is a position, of this many; every digit of a word is a rule, of this many
unfoldable pub positions_in : (positions : ℕ) → List ℕ → Bool
positions_in positions s = not (any max_positions (λ q. has s q && leb positions q))

unfoldable pub rules_in : (rules : ℕ) → ℕ → Bool
rules_in rules word = not (any 64 (λ a. on word a && not (ltb a rules)))

-- "none that names a rule or position the rule table hasn't got passes"; and the busy figure of an
-- entry is the ones in its live set, so that a scan may read it in place of counting
unfoldable pub entry_ok : (rules positions : ℕ) → List ℕ → (e : ℕ) → Bool
entry_ok rules positions c e =
    positions_in positions (entry_live c e)
    && (positions_in positions (entry_held c e)
    && (rules_in rules (entry_pending c e)
    && (rules_in rules (entry_own c e)
    && (rules_in rules (entry_late c e Other)
    && (rules_in rules (entry_late c e Word)
    && (rules_in rules (entry_late c e Newline)
    && eqb (entry_busy c e) (size_of (entry_live c e))))))))

-- "A second table has its own yes-or-no test beside the rule table"
unfoldable pub is_second : (t c : List ℕ) → Bool
is_second t c =
    leb second_words (length c)
    && (eqb (get_or c 0 0) second_format
    && (eqb (second_rules c) (rules_of t)
    && (eqb (second_positions c) (positions_of t)
    && (leb (entries_of c) max_entries
    && all (entries_of c) (entry_ok (rules_of t) (positions_of t) c)))))

-- "Fewer than 32,768 words, also to build one, or words that don't pass are refused with 29,
-- checked right after 1": the number of a build, and the lent words afterwards
unfoldable pub build_number : (t c : List ℕ) → ℕ
build_number t c = cond (is_table t) (cond (ltb (length c) second_words) 29 0) 1

unfoldable pub second : (t c : List ℕ) → List ℕ
second t c = over 0 second_words (second_word (automaton t) (entries (automaton t))) c

unfoldable pub built : (t c : List ℕ) → List ℕ
built t c = cond (eqb (build_number t c) 0) (second t c) c
