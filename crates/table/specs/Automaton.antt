-- The automaton that the words of a table describe, as sets of positions. "Any other words that
-- pass are scanned as the automaton they describe." It looks at the first 16,384 words only.
-- Assumes nothing: these are definitions.
use Rattle.std.specs.Prelude.{ℕ, ◌+◌, Bool, cond, not, ◌&&◌, ◌||◌, List, ◌==◌, nat_le, nat_lt, slice_index}
use Rattle.sets.specs.Set.{on}
use Rattle.table.specs.Layout.{max_rules, max_positions, bytes, rules_of, positions_of, singles_of, leftmosts_of, windowed_of, lowest_at, highest_at, lengths_of, shortest_at, first_at, last_at, lates_at, keepers_at, follow_at, takers_at, id_word, opener_at, owner_at, row_has}
use Rattle.table.specs.Gaps.{first_gaps, follow_gaps, last_gaps, inner_gaps}

pub record Automaton : Type 0 where
  -- how many rules and positions there are
  pub rules : ℕ
  pub positions : ℕ
  -- of the rule in place a, by rising id: its id, whether it is single-match, and whether it
  -- reports the leftmost start
  pub id : (a : ℕ) → ℕ
  pub once : (a : ℕ) → Bool
  pub leftmost : (a : ℕ) → Bool
  -- a report of the rule in place a may have this end offset
  pub inside : (a end : ℕ) → Bool
  -- a match can begin with byte x inside a stream
  pub opens : (x : ℕ) → Bool
  -- position q takes byte x
  pub takes : (x q : ℕ) → Bool
  -- by the gap's number: position q can take the first byte of a match after it
  pub first : (gap q : ℕ) → Bool
  -- position q can take the byte after position p
  pub follow : (gap p q : ℕ) → Bool
  -- a match can end there with position p, of the rule in place `owner p`
  pub ending : (gap p : ℕ) → Bool
  pub owner : (p : ℕ) → ℕ
  -- a match may end with position p once the next byte is known, and not before
  pub late : (p : ℕ) → Bool
  -- position q keeps the start of the longest match that has reached it; a match from this start
  -- that has reached it is long enough to be reported at this end offset
  pub keeps : (q : ℕ) → Bool
  pub long : (q start end : ℕ) → Bool

unfoldable pub automaton : List ℕ → Automaton
automaton t = record {
  rules = rules_of t;
  positions = positions_of t;
  id = λ a. cond (nat_lt a max_rules) (id_word t a) 0;
  once = λ a. on (singles_of t) a;
  leftmost = λ a. on (leftmosts_of t) a;
  inside = λ a e. not (nat_lt a max_rules && on (windowed_of t) a) || (nat_le (slice_index t (lowest_at a)) e && nat_le e (slice_index t (highest_at a)));
  opens = λ x. nat_lt x bytes && not (slice_index t (opener_at x) == 0);
  takes = λ x q. nat_lt x bytes && row_has t (takers_at x) q;
  first = λ g q. nat_lt g first_gaps && row_has t (first_at g) q;
  follow = λ g p q. nat_lt g follow_gaps && (nat_lt p max_positions && row_has t (follow_at g p) q);
  ending = λ g p. nat_lt g last_gaps && row_has t (last_at g) p;
  owner = λ p. cond (nat_lt p max_positions) (slice_index t (owner_at p)) 0;
  late = λ p. row_has t lates_at p;
  keeps = λ q. row_has t keepers_at q;
  long = λ q s e.
      (lengths_of t == 0 || not (row_has t keepers_at q)) || nat_le (s + slice_index t (shortest_at q)) e;
}

-- a match of the rule in place a can end at a gap with position p
abbrev pub last : Automaton → (gap a p : ℕ) → Bool
last w g a p = w.ending g p && w.owner p == a

-- position q can take byte x, the first of a match after a gap: inside a stream, only where a match
-- can begin with x
abbrev pub starts : Automaton → (gap x q : ℕ) → Bool
starts w g x q = w.first g q && (nat_le inner_gaps g || w.opens x)

-- flag 8, "single match"
abbrev pub single : Automaton → ℕ → Bool
single w a = w.once a
