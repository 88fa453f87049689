-- Emptying. The words of `emptied t` are known one by one, so what the loop writes is `emptied t`;
-- the result passes the test and describes the automaton with no rules.
use Rattle.std.proofs.Common.{◌≡◌, ℕ, zero, suc, pred, ◌+◌, ◌-◌, ◌<◌, ◌≤◌, true, false, cond, not, ◌&&◌, ◌||◌, eqb, ltb, leb, List, [], ◌∷◌, ◌++◌, length, get_or, drop, set, sym, refl, ap, ◌∙◌, le_of_suc-le-suc, arith, length-append, length-drop, get_or-drop, get_or-append-add, le-ltb, lt-ltb}
use mathlib.Core.Bool.{and-false}
use borrow.Rule.Slice.PartMut.{put_mid}
use lib.ListN.{replicate, length-replicate, get_or-replicate, get_or-append}
use Rattle.sets.specs.Set.{on}
use Rattle.sets.proofs.Bits.{on-zero}
use Rattle.table.specs.Layout.{table_words, max_rules, max_positions, bytes, format, rules_of, windowed_at, windowed_of, lowest_at, highest_at, lengths_at, shortest_at, first_at, last_at, lates_at, keepers_at, takers_at, follow_at, id_at, opener_at, owner_at, row_has}
use Rattle.table.specs.Gaps.{first_gaps, follow_gaps, last_gaps}
use Rattle.table.specs.Table.{is_table, empty_table, empty_number, emptied}
use Rattle.table.specs.Automaton.{Automaton, automaton}
use Rattle.table.proofs.Rows.{under, row-empty}
use Rattle.table.proofs.Test.{accepted}

-- no rules, no positions
unfoldable pub no_rules : Automaton
no_rules = record {
  rules = 0;
  positions = 0;
  id = λ a. 0;
  once = λ a. false;
  leftmost = λ a. false;
  inside = λ a e. true;
  opens = λ x. false;
  takes = λ x q. false;
  first = λ g q. false;
  follow = λ g p q. false;
  ending = λ g p. false;
  owner = λ p. 0;
  late = λ p. false;
  keeps = λ q. false;
  long = λ q s e. true;
}

-- ---- the empty table, word by word

length-empty : length empty_table ≡ table_words
unfolding empty_table
length-empty = ap suc (length-replicate {A = ℕ} (pred table_words) 0)

empty-zero : (w : ℕ) → 0 < w → w < table_words → get_or empty_table w 0 ≡ 0
unfolding empty_table
empty-zero zero a h = absurd (omega arith)
empty-zero (suc w) a h = get_or-replicate (pred table_words) w 0 0 (le_of_suc-le-suc h)

-- words too few for a table are left alone, with answer 1
pub emptied-short : (t : List ℕ) → length t < table_words → (1 ≡ empty_number t) × (t ≡ emptied t)
unfolding empty_number emptied
emptied-short t h = (rw (lt-ltb (length t) table_words h), rw (lt-ltb (length t) table_words h))

module _ (t : List ℕ) (h : table_words ≤ length t) where
  pub number-long : 0 ≡ empty_number t
  unfolding empty_number
  number-long = rw (le-ltb (length t) table_words h)

  pub emptied-long : emptied t ≡ empty_table ++ drop table_words t
  unfolding emptied
  emptied-long = rw (le-ltb (length t) table_words h)

  pub length-emptied : length (emptied t) ≡ length t
  length-emptied = ap length emptied-long ∙ length-append empty_table (drop table_words t) ∙ omega (arith, length-empty, length-drop table_words t)

  front : (w : ℕ) → w < table_words → get_or (emptied t) w 0 ≡ get_or empty_table w 0
  front w l = ap (λ (s : List ℕ). get_or s w 0) emptied-long ∙ get_or-append empty_table (drop table_words t) 0 w (omega (arith, length-empty))

  pub emptied-format : get_or (emptied t) 0 0 ≡ format
  unfolding empty_table
  emptied-format = front 0 (omega arith)

  pub emptied-zero : (w : ℕ) → 0 < w → w < table_words → get_or (emptied t) w 0 ≡ 0
  emptied-zero w a b = front w b ∙ empty-zero w a b

  -- the words beyond are kept
  pub emptied-past : (w : ℕ) → table_words ≤ w → get_or (emptied t) w 0 ≡ get_or t w 0
  emptied-past w a =
      let e : length empty_table + (w - table_words) ≡ w = omega (arith, length-empty) in
      let f : table_words + (w - table_words) ≡ w = omega arith in
      ap (λ (s : List ℕ). get_or s w 0) emptied-long
      ∙ ap (λ (i : ℕ). get_or (empty_table ++ drop table_words t) i 0) (sym e)
      ∙ get_or-append-add empty_table (drop table_words t) (w - table_words) 0
      ∙ get_or-drop table_words t (w - table_words) 0 ∙ ap (λ (i : ℕ). get_or t i 0) f

  -- ---- it is a table

  none : rules_of (emptied t) ≡ 0
  none = emptied-zero 1 (omega arith) (omega arith)

  pub empty-passes : is_table (emptied t) ≡ true
  empty-passes =
      accepted (emptied t) (record {
        long = omega (arith, length-emptied);
        marked = emptied-format;
        rules = omega (arith, none);
        positions = omega (arith, emptied-zero 2 (omega arith) (omega arith));
        rising = λ a b l m. absurd (omega (arith, none));
        small = λ a l. absurd (omega (arith, none));
      })

  -- ---- it describes the automaton with no rules

  pub empty-automaton : automaton (emptied t) ≡ no_rules
  unfolding automaton no_rules
  empty-automaton = λ i. record {
    rules = none i;
    positions = emptied-zero 2 (omega arith) (omega arith) i;
    id = λ a. number max_rules id_at (λ a h. (omega arith, omega arith)) a i;
    once = λ a. (ap (λ (x : ℕ). on x a) (emptied-zero 3 (omega arith) (omega arith)) ∙ on-zero a) i;
    leftmost = λ a. (ap (λ (x : ℕ). on x a) (emptied-zero 704 (omega arith) (omega arith)) ∙ on-zero a) i;
    inside = λ a e. window a e i;
    opens = λ x. opener x i;
    takes = λ x q. test bytes takers_at (λ x h. (omega arith, omega arith)) x q i;
    first = λ g q. test first_gaps first_at (λ g h. (omega arith, omega arith)) g q i;
    follow = λ g p q. tests follow_gaps max_positions follow_at (λ g p h l. (omega arith, omega arith)) g p q i;
    ending = λ g p. test last_gaps last_at (λ g h. (omega arith, omega arith)) g p i;
    owner = λ p. number max_positions owner_at (λ p h. (omega arith, omega arith)) p i;
    late = λ p. no_member lates_at (omega arith) (omega arith) p i;
    keeps = λ q. no_member keepers_at (omega arith) (omega arith) q i;
    long = λ q s e. ap (λ (x : ℕ). (eqb x 0 || not (row_has (emptied t) keepers_at q)) || leb (s + get_or (emptied t) (shortest_at q) 0) e) (emptied-zero lengths_at (omega arith) (omega arith)) i;
  }
    where
      number : (n : ℕ) (place : ℕ → ℕ) → ((k : ℕ) → k < n → (0 < place k) × (place k < table_words)) → (k : ℕ) → cond (ltb k n) (get_or (emptied t) (place k) 0) 0 ≡ 0
      number n place fits k = under n k (λ b. cond b (get_or (emptied t) (place k) 0) 0) (λ b. 0) (λ m. emptied-zero (place k) (fits k m).0 (fits k m).1) refl

      window : (a e : ℕ) → (not (ltb a max_rules && on (windowed_of (emptied t)) a) || (leb (get_or (emptied t) (lowest_at a) 0) e && leb e (get_or (emptied t) (highest_at a) 0))) ≡ true
      window a e =
          let off : on (windowed_of (emptied t)) a ≡ false = ap (λ (x : ℕ). on x a) (emptied-zero windowed_at (omega arith) (omega arith)) ∙ on-zero a in
          rw (off, and-false (ltb a max_rules))

      opener : (x : ℕ) → (ltb x bytes && not (eqb (get_or (emptied t) (opener_at x) 0) 0)) ≡ false
      opener x =
          under bytes x (λ b. b && not (eqb (get_or (emptied t) (opener_at x) 0) 0)) (λ b. false)
          (λ m. ap (λ (y : ℕ). not (eqb y 0)) (emptied-zero (opener_at x) (omega arith) (omega arith))) refl

      no_member : (at : ℕ) → 0 < at → at + 4 ≤ table_words → (q : ℕ) → row_has (emptied t) at q ≡ false
      no_member at a b = row-empty (emptied t) at (λ i l. emptied-zero (at + i) (omega arith) (omega arith))

      test : (n : ℕ) (place : ℕ → ℕ) → ((k : ℕ) → k < n → (0 < place k) × (place k + 4 ≤ table_words)) → (k q : ℕ) → (ltb k n && row_has (emptied t) (place k) q) ≡ false
      test n place fits k q = under n k (λ b. b && row_has (emptied t) (place k) q) (λ b. false) (λ m. no_member (place k) (fits k m).0 (fits k m).1 q) refl

      tests : (n m : ℕ) (place : ℕ → ℕ → ℕ) → ((j k : ℕ) → j < n → k < m → (0 < place j k) × (place j k + 4 ≤ table_words))
          → (j k q : ℕ) → (ltb j n && (ltb k m && row_has (emptied t) (place j k) q)) ≡ false
      tests n m place fits j k q =
          under n j (λ b. b && (ltb k m && row_has (emptied t) (place j k) q)) (λ b. false) (λ h. test m (place j) (λ k l. fits j k h l) k q) refl

-- ---- the format first, then n zeros, is the emptied table

pub filled-is : (t s : List ℕ) (n : ℕ) → table_words ≤ length t → n ≡ pred table_words → s ≡ replicate n 0
    → put_mid 1 (pred table_words) (set t 0 format) s ≡ emptied t
unfolding empty_table
filled-is [] s n h e f = absurd (omega arith)
filled-is (x ∷ t) s n h e f =
    ap (λ (l : List ℕ). format ∷ (l ++ drop (pred table_words) t)) (f ∙ ap (λ (k : ℕ). replicate k 0) e) ∙ sym (emptied-long (x ∷ t) h)
