-- What the private functions promise, where that is not an equation with a definition that a reader
-- must believe. Assumes nothing: these are definitions.
use Rattle.std.specs.Prelude.{◌≡◌, Bool, true, cond, not, ◌&&◌, ◌||◌, List, ℕ, zero, suc, ◌+◌, ◌*◌, ◌/◌, ◌%◌, ◌<◌, ◌≤◌, eqb, leb, ltb, length, get_or}
use Rattle.std.specs.Int.Bits.{bit_or}
use Rattle.sets.specs.Set.{empty_set, is_empty, union_of, size_of}
use Rattle.kinds.specs.declared.Side.{Side}
use Rattle.kinds.specs.declared.Side.TheVariants.{Other, Word, Newline}
use Rattle.kinds.specs.Side.{side_of, side_word}
use Rattle.table.specs.Automaton.{Automaton}
use Rattle.second.specs.declared.Key.{Key}
use Rattle.second.specs.declared.test.Named.{Named}
use Rattle.second.specs.Layout.{max_entries, no_entry, row_at, entry_live, entry_held, entry_pending, entry_last, entry_own, entry_late, entry_busy}
use Rattle.second.specs.Entries.{same_key, first_of, next_key, needs_old, entries, second_word}

-- ---- the test

-- what an entry names, and what the first n name, joined
unfoldable pub named_by : List ℕ → (e : ℕ) → Named
named_by c e = record {
  set = union_of (entry_live c e) (entry_held c e);
  rules = bit_or (bit_or (entry_pending c e) (entry_own c e)) (bit_or (bit_or (entry_late c e Other) (entry_late c e Word)) (entry_late c e Newline));
  counted = eqb (entry_busy c e) (size_of (entry_live c e));
}

abbrev pub joined : Named → Named → Named
joined a b = record { set = union_of a.set b.set; rules = bit_or a.rules b.rules; counted = a.counted && b.counted }

unfoldable pub named_by_all : List ℕ → (n : ℕ) → Named
named_by_all c zero = record { set = empty_set; rules = 0; counted = true }
named_by_all c (suc n) = joined (named_by_all c n) (named_by c n)

-- ---- a build

-- the key in an entry's words
abbrev pub key_in : List ℕ → ℕ → Key
key_in c e = record { live = entry_live c e; held = entry_held c e; pending = entry_pending c e; last = entry_last c e }

-- whether an entry besides the start has a key
unfoldable pub has_key : (c : List ℕ) → Key → (e : ℕ) → Bool
has_key c k e = not (eqb e 0) && same_key (key_in c e) k

-- whether an entry besides the start has nothing live, after a byte of a side
unfoldable pub rests : (c : List ℕ) → Side → (e : ℕ) → Bool
rests c side e = not (eqb e 0) && (is_empty (entry_live c e) && eqb (side_word (entry_last c e)) (side_word side))

unfoldable pub resting_in : (c : List ℕ) → (count : ℕ) → Side → ℕ
resting_in c count side = cond (ltb (first_of count (rests c side)) count) (row_at (first_of count (rests c side))) 0

-- whether byte x, which leads from entry e to entry j, reports nothing, and something is live
-- before it or after it
unfoldable pub quiet_at : (c : List ℕ) → (e j x : ℕ) → Bool
quiet_at c e j x =
    (eqb (entry_late c e (side_of x)) 0 && eqb (entry_own c j) 0) && not (is_empty (entry_live c e) && is_empty (entry_live c j))

-- What byte n % 256 leads to from entry n / 256, as far as the words of that entry go; where it
-- stands among the first `count` entries besides the start.
module _ (w : Automaton) (c : List ℕ) (count n : ℕ) where
  abbrev pub key_after : Key
  key_after = next_key w (n / 256) (key_in c (n / 256)) (n % 256)

  abbrev pub place_in : ℕ
  place_in = first_of count (has_key c key_after)

  -- whether it is one entry more
  abbrev pub grows : Bool
  grows = ltb (n / 256) count && not (ltb place_in count || leb max_entries count)

  -- the word of the byte
  unfoldable pub target_in : ℕ
  target_in =
      cond (needs_old w (n / 256) (key_in c (n / 256)) (n % 256)) no_entry
      (cond (ltb place_in count) (row_at place_in + cond (quiet_at c (n / 256) place_in (n % 256)) 0 1) no_entry)

-- the words of the records are those of the entries
unfoldable pub Recorded : Automaton → List ℕ → Type 0
Recorded w c = (i : ℕ) → 16 ≤ i → i < 16 + length (entries w) * 16 → get_or c i 0 ≡ second_word w (entries w) i
