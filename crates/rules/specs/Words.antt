-- The words of a table with one rule more, by what each word's bits mean. The positions that the
-- table has keep what they had among themselves, and the new rule's positions come after them. For
-- any words that pass the test: bits above the old position count, which no built table has, are
-- dropped. Assumes nothing: these are definitions.
use Rattle.std.specs.Prelude.{Bool, cond, not, ◌&&◌, ◌||◌, List, [], ◌∷◌, ◌++◌, ℕ, zero, suc, ◌+◌, ◌-◌, ◌*◌, ◌/◌, ◌%◌, eqb, leb, ltb, get_or, drop}
use Rattle.sets.specs.Set.{on, has, set_of, word_of, any, as_one, count}
use Rattle.table.specs.Layout.{table_words, max_rules, max_positions, bytes, rules_of, positions_of, singles_of, leftmosts_at, leftmosts_of, windowed_at, windowed_of, lowest_at, highest_at, lengths_at, lengths_of, shortest_at, keepers_at, first_at, id_at, id_word, opener_at, owner_at, last_at, lates_at, follow_at, takers_at, row_has, from_to}
use Rattle.table.specs.Gaps.{first_gaps, follow_gaps, last_gaps, inner_gaps, unsettled}
use Rattle.table.specs.Invariants.{over}
use Rattle.meaning.specs.Rule.{Windows, no_windows, start_is_needed}
use Rattle.automaton.specs.declared.Parts.{Parts}

-- the words f 0, f 1, .. up to n of them
unfoldable pub words_of : ℕ → (ℕ → ℕ) → List ℕ
words_of zero f = []
words_of (suc n) f = words_of n f ++ (f n ∷ [])

-- the set in the row at `at`, kept to the positions that the table has
unfoldable pub old_row : List ℕ → ℕ → ℕ → Bool
old_row t at q = ltb q (positions_of t) && row_has t at q

-- the words of the set of the row's old positions and some new ones
unfoldable pub joined_row : List ℕ → ℕ → List ℕ → List ℕ
joined_row t at new = set_of (λ q. old_row t at q || has new q)

-- rules stand by rising id: the new rule's place is the number of rules with a smaller id
unfoldable pub place_of : List ℕ → ℕ → ℕ
place_of t id = count (rules_of t) (λ a. ltb (id_word t a) id)

-- the digits of some places, with one put in at place k and those from there on moved up by one
unfoldable pub digits_with : (k : ℕ) → Bool → ℕ → ℕ
digits_with k new old =
    word_of 64 (λ a. cond (ltb a k) (on old a) (cond (eqb a k) new (on old (a - 1))))

-- the same of a number for each place; words that none of the rules has stay
abbrev pub numbers_with : (rules k new : ℕ) → (ℕ → ℕ) → ℕ → ℕ
numbers_with rules k new old a =
    cond (ltb a k) (old a) (cond (eqb a k) new (cond (leb a rules) (old (a - 1)) (old a)))

-- a place, once a rule is put in at place k: those from there on are moved up by one
unfoldable pub raised : (k o : ℕ) → ℕ
raised k o = cond (ltb o k) o (cond (ltb o max_rules) (o + 1) o)

-- the owner of position q, which was o: the first n positions keep theirs, and the `more` after
-- them have the rule in place k
unfoldable pub owner_with : (n more k q o : ℕ) → ℕ
owner_with n more k q o = cond (ltb q n) (raised k o) (cond (ltb q (n + more)) k o)

-- flag 8 is "single match", flag 256 "leftmost start"
abbrev pub is_single : ℕ → Bool
is_single flags = eqb (flags / 8 % 2) 1

abbrev pub is_leftmost : ℕ → Bool
is_leftmost flags = eqb (flags / 256 % 2) 1

-- a rule has a window of end offsets unless both are left out
abbrev pub has_offsets : Windows → Bool
has_offsets v = not (eqb v.smallest_end 0) || not (eqb v.largest_end no_windows.largest_end)

-- a rule's positions keep a start where the rule reports one, or has a smallest length
abbrev pub needs_start : (flags : ℕ) → Windows → Bool
needs_start flags v = start_is_needed (is_leftmost flags) v

-- the numbers of the rules that stand from `at` on, with that of the rule in place k
unfoldable pub numbers_put : (at rules k new : ℕ) → List ℕ → List ℕ
numbers_put at rules k new t =
    over at (at + max_rules) (λ w. numbers_with rules k new (λ a. get_or t (at + a) 0) (w - at)) t

-- the end offsets of the new rule, put in at its place
unfoldable pub with_offsets : List ℕ → (id : ℕ) → Windows → List ℕ
with_offsets t id v =
    let k : ℕ = place_of t id in
    over windowed_at (windowed_at + 1) (λ w. digits_with k (has_offsets v) (windowed_of t))
    (numbers_put (highest_at 0) (rules_of t) k v.largest_end
    (numbers_put (lowest_at 0) (rules_of t) k v.smallest_end t))

-- the word that is not 0 where some rule has a smallest length
abbrev pub lengths_with : (shortest old : ℕ) → ℕ
lengths_with shortest old = cond (eqb shortest 0) old 1

unfoldable pub lengths_put : (shortest : ℕ) → List ℕ → List ℕ
lengths_put shortest t = over lengths_at (lengths_at + 1) (λ w. lengths_with shortest (lengths_of t)) t

-- a smallest length for each position from n on: these are of no rule yet, so the new rule's have
-- it, and later rules put in their own
unfoldable pub shortest_put : (n shortest : ℕ) → List ℕ → List ℕ
shortest_put n shortest t = over (shortest_at n) (shortest_at max_positions) (λ w. shortest) t

-- the windows of the new rule put in; all other words stay
unfoldable pub with_window : List ℕ → (id : ℕ) → Windows → List ℕ
with_window t id v =
    shortest_put (positions_of t) v.smallest_length
    (lengths_put v.smallest_length (with_offsets t id v))

-- The new rule's parts are given for each gap; how many positions it has, and which bytes they
-- take, is the same at all. Whether its positions keep a start is given too.
module _ (t : List ℕ) (id flags : ℕ) (keeping : Bool) (parts : ℕ → Parts) where
  abbrev more : ℕ
  more = (parts 0).positions

  abbrev place : ℕ
  place = place_of t id

  -- the id in place a: the old ones below the new rule's place, the new one, the later old ones
  -- moved up by one; words that no rule has stay
  unfoldable pub id_words : ℕ → ℕ
  id_words a = numbers_with (rules_of t) place id (id_word t) a

  -- the single-match rules, the digits of the later old ones moved up likewise; and the rules that
  -- report the leftmost start
  unfoldable pub singles_word : ℕ
  singles_word = digits_with (place_of t id) (is_single flags) (singles_of t)

  unfoldable pub leftmosts_word : ℕ
  leftmosts_word = digits_with (place_of t id) (is_leftmost flags) (leftmosts_of t)

  -- word i of the set of the positions that keep a start
  unfoldable pub new_keeper : ℕ → Bool
  new_keeper q = keeping && from_to (positions_of t) (positions_of t + more) q

  unfoldable pub keeper_words : ℕ → ℕ
  keeper_words i = get_or (set_of (λ q. old_row t keepers_at q || new_keeper q)) i 0

  -- the owner of position q
  unfoldable pub owner_words : ℕ → ℕ
  owner_words q = owner_with (positions_of t) more (place_of t id) q (get_or t (owner_at q) 0)

  -- word i of the set of last positions at a gap
  unfoldable pub last_words : ℕ → ℕ → ℕ
  last_words g i = get_or (joined_row t (last_at g) (parts g).last) i 0

  -- word i of the set of the positions with which a match can end only where the next byte allows
  -- it: at some gap between two bytes, and not where it is not known what follows
  unfoldable pub late_words : ℕ → ℕ
  late_words i =
      get_or (set_of (λ q. any inner_gaps (λ g. old_row t (last_at g) q || has (parts g).last q)
      && not (old_row t (last_at unsettled) q || has (parts unsettled).last q))) i 0

  -- word i of the set of first positions at a gap
  unfoldable pub first_words : ℕ → ℕ → ℕ
  first_words g i = get_or (joined_row t (first_at g) (parts g).first) i 0

  -- word i of row p of the follow sets at a gap: the old ones, the new rule's, and rows that no
  -- position has, which stay
  unfoldable pub follow_words : ℕ → ℕ → ℕ → ℕ
  follow_words g p i =
      cond (ltb p (positions_of t)) (get_or (set_of (old_row t (follow_at g p))) i 0)
      (cond (ltb p (positions_of t + more)) (get_or (parts g).follow ((p - positions_of t) * 4 + i) 0)
      (get_or t (follow_at g p + i) 0))

  -- the new positions that take byte x
  unfoldable pub new_taker : ℕ → ℕ → Bool
  new_taker x q = from_to (positions_of t) (positions_of t + more) q && row_has (parts 0).takes ((q - positions_of t) * 4) x

  unfoldable pub takers_words : ℕ → ℕ → ℕ
  takers_words x i = get_or (set_of (λ q. old_row t (takers_at x) q || new_taker x q)) i 0

  -- a match can begin with byte x inside a stream: some position takes it and is first at a gap
  -- between two bytes
  unfoldable pub opener : ℕ → ℕ
  opener x =
      as_one (any max_positions (λ q. (old_row t (takers_at x) q || new_taker x q) && any inner_gaps (λ g. old_row t (first_at g) q || has (parts g).first q)))

  -- word w of the table with the rule
  unfoldable pub added_word : ℕ → ℕ
  added_word w =
      cond (eqb w 1) (rules_of t + 1)
      (cond (eqb w 2) (positions_of t + more)
      (cond (eqb w 3) singles_word
      (cond (from_to (last_at 0) (last_at last_gaps) w) (last_words ((w - last_at 0) / 4) ((w - last_at 0) % 4))
      (cond (from_to lates_at (lates_at + 4) w) (late_words (w - lates_at))
      (cond (from_to (first_at 0) (first_at first_gaps) w) (first_words ((w - first_at 0) / 4) ((w - first_at 0) % 4))
      (cond (from_to (id_at 0) (id_at max_rules) w) (id_words (w - id_at 0))
      (cond (from_to (opener_at 0) (opener_at bytes) w) (opener (w - opener_at 0))
      (cond (from_to (owner_at 0) (owner_at max_positions) w) (owner_words (w - owner_at 0))
      (cond (from_to (takers_at 0) (takers_at bytes) w) (takers_words ((w - takers_at 0) / 4) ((w - takers_at 0) % 4))
      (cond (from_to (follow_at 0 0) (follow_at follow_gaps 0) w)
      (follow_words ((w - follow_at 0 0) / 1024) ((w - follow_at 0 0) % 1024 / 4) ((w - follow_at 0 0) % 4))
      (cond (eqb w leftmosts_at) leftmosts_word
      (cond (from_to keepers_at (keepers_at + 4) w) (keeper_words (w - keepers_at))
      (get_or t w 0)))))))))))))

  -- the table with the rule; words beyond 16,384 are untouched
  unfoldable pub added : List ℕ
  added = words_of table_words added_word ++ drop table_words t

-- the table with the rule and its windows
abbrev pub added_in : List ℕ → (id flags : ℕ) → Windows → (ℕ → Parts) → List ℕ
added_in t id flags v parts = added (with_window t id v) id flags (needs_start flags v) parts
