-- Words beyond the first 16,384 count for nothing: lists that agree up to there describe the same
-- automaton, and pass the test alike. Each part of the automaton and each fact of the test reads
-- words below 16,384, which are the same in both lists; lists too short for a table are equal.
use Rattle.std.proofs.Common.{◌≡◌, ℕ, ◌+◌, ◌<◌, ◌≤◌, min, Bool, true, false, cond, not, ◌&&◌, ◌||◌, eqb, ltb, leb, List, length, get_or, take, sym, refl, ap, ◌∙◌, true≢false, arith, length-take, take_all, get_or-take}
use mathlib.Core.Bool.{or-true}
use native.Mathlib.Decide.{dec_lt}
use Rattle.sets.specs.Set.{on}
use Rattle.table.specs.Layout.{table_words, max_rules, max_positions, bytes, rules_of, positions_of, leftmosts_at, windowed_at, windowed_of, lowest_at, highest_at, lengths_at, lengths_of, shortest_at, first_at, id_at, id_word, opener_at, owner_at, last_at, lates_at, keepers_at, takers_at, follow_at, row_has}
use Rattle.table.specs.Gaps.{first_gaps, follow_gaps, last_gaps}
use Rattle.table.specs.Table.{is_table}
use Rattle.table.specs.Automaton.{Automaton, automaton}
use Rattle.table.proofs.Test.{Passes, passes, accepted, refused}
use Rattle.table.proofs.Rows.{under, row-past, row_same}

-- a word that no rule's windows have
abbrev pub NoWindow : ℕ → Type 0
NoWindow w = (windowed_at ≤ w → w ≤ lengths_at → ⊥) × (lowest_at 0 ≤ w → w < shortest_at max_positions → ⊥)

-- a set of which no rule's windows have a word
abbrev Row : ℕ → Type 0
Row at = (at + 4 ≤ table_words) × ((i : ℕ) → i < 4 → NoWindow (at + i))

-- an automaton with other windows
abbrev pub with_windows : Automaton → (inside : ℕ → ℕ → Bool) → (long : ℕ → ℕ → ℕ → Bool) → Automaton
with_windows w inside long = record {
  rules = w.rules;
  positions = w.positions;
  id = w.id;
  once = w.once;
  leftmost = w.leftmost;
  inside = inside;
  opens = w.opens;
  takes = w.takes;
  first = w.first;
  follow = w.follow;
  ending = w.ending;
  owner = w.owner;
  late = w.late;
  keeps = w.keeps;
  long = long;
}

-- lists that agree but for windows describe the same automaton but for windows
module _ (t u : List ℕ) (same : (w : ℕ) → w < table_words → NoWindow w → get_or t w 0 ≡ get_or u w 0) where
  low : (w : ℕ) → w < windowed_at → get_or t w 0 ≡ get_or u w 0
  low w h = same w (omega arith) (λ a b. omega arith, λ a b. omega arith)

  same_row : (at : ℕ) → at + 4 ≤ table_words → ((i : ℕ) → i < 4 → NoWindow (at + i)) → (q : ℕ) → row_has t at q ≡ row_has u at q
  same_row at h apart = row_same t u at at (λ i l. same (at + i) (omega arith) (apart i l))

  pub but-windows : automaton t ≡ with_windows (automaton u) (automaton t).inside (automaton t).long
  unfolding automaton
  but-windows = λ i. record {
    rules = low 1 (omega arith) i;
    positions = low 2 (omega arith) i;
    id = λ a. number max_rules id_at (λ a h. omega arith) a i;
    once = λ a. on (low 3 (omega arith) i) a;
    leftmost = λ a. on (low leftmosts_at (omega arith) i) a;
    inside = (automaton t).inside;
    opens = λ x. opener x i;
    takes = λ x q. test bytes takers_at (λ x h. (omega arith, λ j l. (λ a b. omega arith, λ a b. omega arith))) x q i;
    first = λ g q. test first_gaps first_at (λ g h. (omega arith, λ j l. (λ a b. omega arith, λ a b. omega arith))) g q i;
    follow = λ g p q. tests follow_gaps max_positions follow_at (λ g p h l. (omega arith, λ j m. (λ a b. omega arith, λ a b. omega arith))) g p q i;
    ending = λ g p. test last_gaps last_at (λ g h. (omega arith, λ j l. (λ a b. omega arith, λ a b. omega arith))) g p i;
    owner = λ p. number max_positions owner_at (λ p h. omega arith) p i;
    late = λ p. same_row lates_at (omega arith) (λ j l. (λ a b. omega arith, λ a b. omega arith)) p i;
    keeps = λ q. same_row keepers_at (omega arith) (λ j l. (λ a b. omega arith, λ a b. omega arith)) q i;
    long = (automaton t).long;
  }
    where
      number : (n : ℕ) (place : ℕ → ℕ) → ((k : ℕ) → k < n → place k < windowed_at) → (k : ℕ) → cond (ltb k n) (get_or t (place k) 0) 0 ≡ cond (ltb k n) (get_or u (place k) 0) 0
      number n place fits k = under n k (λ b. cond b (get_or t (place k) 0) 0) (λ b. cond b (get_or u (place k) 0) 0) (λ h. low (place k) (fits k h)) refl

      opener : (x : ℕ) → (ltb x bytes && not (eqb (get_or t (opener_at x) 0) 0)) ≡ (ltb x bytes && not (eqb (get_or u (opener_at x) 0) 0))
      opener x =
          under bytes x (λ b. b && not (eqb (get_or t (opener_at x) 0) 0)) (λ b. b && not (eqb (get_or u (opener_at x) 0) 0))
          (λ h. ap (λ (y : ℕ). not (eqb y 0)) (low (opener_at x) (omega arith))) refl

      test : (n : ℕ) (place : ℕ → ℕ) → ((k : ℕ) → k < n → Row (place k)) → (k q : ℕ) → (ltb k n && row_has t (place k) q) ≡ (ltb k n && row_has u (place k) q)
      test n place fits k q = under n k (λ b. b && row_has t (place k) q) (λ b. b && row_has u (place k) q) (λ h. same_row (place k) (fits k h).0 (fits k h).1 q) refl

      tests : (n m : ℕ) (place : ℕ → ℕ → ℕ) → ((j k : ℕ) → j < n → k < m → Row (place j k))
          → (j k q : ℕ) → (ltb j n && (ltb k m && row_has t (place j k) q)) ≡ (ltb j n && (ltb k m && row_has u (place j k) q))
      tests n m place fits j k q =
          under n j (λ b. b && (ltb k m && row_has t (place j k) q)) (λ b. b && (ltb k m && row_has u (place j k) q))
          (λ h. test m (place j) (λ k l. fits j k h l) k q) refl

  -- each fact of the test carries over
  pub kept : table_words ≤ length u → Passes t → Passes u
  kept long p =
      record {
        long = long;
        marked = sym (low 0 (omega arith)) ∙ p.marked;
        rules = omega (arith, rules, p.rules);
        positions = omega (arith, positions, p.positions);
        rising = λ a b l m. omega (arith, field a (omega arith), field b m, p.rising a b l (omega (arith, rules)));
        small = λ a l. omega (arith, field a l, p.small a (omega (arith, rules)));
      }
    where
      rules : rules_of t ≡ rules_of u
      rules = low 1 (omega arith)

      positions : positions_of t ≡ positions_of u
      positions = low 2 (omega arith)

      field : (a : ℕ) → a < rules_of u → id_word t a ≡ id_word u a
      field a h = low (id_at a) (omega (arith, rules, p.rules))

module _ (t u : List ℕ) (same : take table_words t ≡ take table_words u) where
  pub same_word : (w : ℕ) → w < table_words → get_or t w 0 ≡ get_or u w 0
  same_word w h = sym (get_or-take table_words t w 0 h) ∙ ap (λ (l : List ℕ). get_or l w 0) same ∙ get_or-take table_words u w 0 h

  pub automaton-local : automaton t ≡ automaton u
  unfolding automaton
  automaton-local = but-windows t u (λ w h a. same_word w h) ∙ (λ i. with_windows (automaton u) (λ a e. window a e i) (λ q s e. length-test q s e i))
    where
      window : (a e : ℕ) → (not (ltb a max_rules && on (windowed_of t) a) || (leb (get_or t (lowest_at a) 0) e && leb e (get_or t (highest_at a) 0)))
          ≡ (not (ltb a max_rules && on (windowed_of u) a) || (leb (get_or u (lowest_at a) 0) e && leb e (get_or u (highest_at a) 0)))
      window a e =
          under max_rules a (λ b. not (b && on (windowed_of t) a) || (leb (get_or t (lowest_at a) 0) e && leb e (get_or t (highest_at a) 0)))
          (λ b. not (b && on (windowed_of u) a) || (leb (get_or u (lowest_at a) 0) e && leb e (get_or u (highest_at a) 0)))
          (λ h j. not (on (same_word windowed_at (omega arith) j) a) || (leb (same_word (lowest_at a) (omega arith) j) e && leb e (same_word (highest_at a) (omega arith) j)))
          refl

      same-keepers : (q : ℕ) → row_has t keepers_at q ≡ row_has u keepers_at q
      same-keepers = row_same t u keepers_at keepers_at (λ i l. same_word (keepers_at + i) (omega arith))

      -- a length is read of a position that keeps a start, and of no other
      length-test : (q s e : ℕ) → ((eqb (lengths_of t) 0 || not (row_has t keepers_at q)) || leb (s + get_or t (shortest_at q) 0) e)
          ≡ ((eqb (lengths_of u) 0 || not (row_has u keepers_at q)) || leb (s + get_or u (shortest_at q) 0) e)
      length-test q s e = go (dec_lt q max_positions)
        where
          go : Dec (q < max_positions) → ((eqb (lengths_of t) 0 || not (row_has t keepers_at q)) || leb (s + get_or t (shortest_at q) 0) e)
              ≡ ((eqb (lengths_of u) 0 || not (row_has u keepers_at q)) || leb (s + get_or u (shortest_at q) 0) e)
          go (yes h) = λ j. (eqb (same_word lengths_at (omega arith) j) 0 || not (same-keepers q j)) || leb (s + same_word (shortest_at q) (omega arith) j) e
          go (no h) =
              rw (row-past t keepers_at q (omega arith), row-past u keepers_at q (omega arith), or-true (eqb (lengths_of t) 0), or-true (eqb (lengths_of u) 0))

  -- such lists are long enough for a table together, or equal
  lengths : min table_words (length t) ≡ min table_words (length u)
  lengths = sym (length-take table_words t) ∙ ap length same ∙ length-take table_words u

  short-same : length t < table_words → t ≡ u
  short-same h = sym (take_all table_words t (omega arith)) ∙ same ∙ take_all table_words u (omega (arith, lengths))

-- the test depends on the first 16,384 words alone
pub is_table-local : (t u : List ℕ) → take table_words t ≡ take table_words u → is_table t ≡ is_table u
is_table-local t u same = go (dec_lt (length t) table_words) (is_table t) refl
  where
    go : Dec (length t < table_words) → (b : Bool) → is_table t ≡ b → is_table t ≡ is_table u
    go (yes h) b e = ap is_table (short-same t u same h)
    go (no h) true e = e ∙ sym (accepted u (kept t u (λ w h a. same_word t u same w h) (omega (arith, lengths t u same)) (passes t e)))
    go (no h) false e = e ∙ sym (refused u (λ p. true≢false (sym (accepted t (kept u t (λ w h a. same_word u t (sym same) w h) (omega arith) p)) ∙ e)))

-- so the first 16,384 words by themselves describe what all of them do
module _ (t : List ℕ) where
  first-same : take table_words (take table_words t) ≡ take table_words t
  first-same = take_all table_words (take table_words t) (omega (arith, length-take table_words t))

  pub first-automaton : automaton (take table_words t) ≡ automaton t
  first-automaton = automaton-local (take table_words t) t first-same

  pub first-table : is_table (take table_words t) ≡ is_table t
  first-table = is_table-local (take table_words t) t first-same
