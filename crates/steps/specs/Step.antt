-- What one byte does to a live set, and which rules a live set ends. Over the automaton that the
-- words describe, not over words. Assumes nothing: these are definitions.
use Rattle.std.specs.Prelude.{◌≡◌, Bool, false, cond, not, ◌&&◌, ◌||◌, List, [], ◌∷◌, ℕ, zero, suc, ◌<◌, leb, ltb, length, get_or}
use Rattle.kinds.specs.declared.Side.{Side}
use Rattle.sets.specs.Set.{on, has, set_of, word_of, any, smallest, empty_set, intersection_of}
use Rattle.table.specs.Layout.{table_words, max_rules, max_positions}
use Rattle.table.specs.Gaps.{unsettled, gap_of, first_gap}
use Rattle.table.specs.Automaton.{Automaton, automaton, last, starts}

-- a set, and a number, that is given of words enough for a table; of fewer it is empty, and 0
unfoldable pub set_on : (t s : List ℕ) → List ℕ
set_on t s = cond (leb table_words (length t)) s empty_set

unfoldable pub number_on : (t : List ℕ) → ℕ → ℕ
number_on t n = cond (leb table_words (length t)) n 0

-- the numbers f i, f (i + 1), .. , n of them
unfoldable pub list_from : (i n : ℕ) → (ℕ → ℕ) → List ℕ
list_from i zero f = []
list_from i (suc n) f = f i ∷ list_from (suc i) n f

-- n numbers that are given of words enough for a table; of fewer each is 0
unfoldable pub list_on : (t : List ℕ) → (n : ℕ) → (s : List ℕ) → List ℕ
list_on t n s = cond (leb table_words (length t)) s (list_from 0 n (λ q. 0))

module _ (w : Automaton) where
  -- The live set after byte x, `taken` bytes into the stream: the positions below n, the number
  -- that there are, that take x, and are first or follow a live one. A match may start at every
  -- byte. `before` and `after` are the sides of the gap before x: the byte there, and x. Where
  -- `line` is true, as if x were a newline and the last byte.
  unfoldable pub stepped : (line : Bool) → (before after : Side) → (n : ℕ) → (live : List ℕ) → (taken x : ℕ) → List ℕ
  stepped line before after n live taken x =
      set_of (λ q. ltb q n && (w.takes x q
      && (starts w (first_gap line taken before after) x q || any max_positions (λ p. has live p && w.follow (gap_of line before after) p q))))

  -- some live position ends a match of the rule in place a, at a gap
  unfoldable pub ends : (gap : ℕ) → List ℕ → ℕ → Bool
  ends gap live a = any max_positions (λ p. has live p && last w gap a p)

  -- some position of a set ends a match at a gap, and no position of the live set ends one at
  -- another, where less is known
  unfoldable pub ends_newly : (gap : ℕ) → List ℕ → (less : ℕ) → List ℕ → ℕ → Bool
  ends_newly gap set less live a = ends gap set a && not (ends less live a)

  -- the positions with which a match of some rule can end whatever follows
  unfoldable pub lasts_of : List ℕ
  lasts_of = set_of (w.ending unsettled)

  -- the positions with which a match of some rule can end only where the next byte allows it, and
  -- those of a live set
  unfoldable pub lates_of : List ℕ
  lates_of = set_of w.late

  abbrev pub late_in : List ℕ → List ℕ
  late_in live = intersection_of live lates_of

  -- the positions that keep a start
  unfoldable pub keepers_of : List ℕ
  keepers_of = set_of w.keeps

  -- the rules that pass a test, as a word: digit a is the rule in place a
  abbrev pub rules_where : (ℕ → Bool) → ℕ
  rules_where test = word_of 64 (λ a. ltb a w.rules && test a)

  -- a test of rules, kept to those whose window has this end offset; and so for some rules, a digit
  -- for each place
  abbrev pub windowed : (ℕ → Bool) → (end a : ℕ) → Bool
  windowed test end a = test a && w.inside a end

  abbrev pub in_window : (rules end : ℕ) → ℕ
  in_window rules end = word_of 64 (windowed (on rules) end)

  -- The start of a position after a byte, `taken` bytes into the stream: the smaller of this offset
  -- and the starts of the positions of the set before it that it follows. The positions of `next`
  -- have that one; every other has 0.
  unfoldable pub start_after : (line : Bool) → (before after : Side) → (live starts : List ℕ) → (taken q : ℕ) → ℕ
  start_after line before after live starts taken q =
      smallest max_positions (λ p. has live p && w.follow (gap_of line before after) p q) (λ p. get_or starts p 0) taken

  unfoldable pub stepped_starts : (line : Bool) → (before after : Side) → (live starts next : List ℕ) → (taken : ℕ) → List ℕ
  stepped_starts line before after live starts next taken =
      list_from 0 max_positions (λ q. cond (has next q) (start_after line before after live starts taken q) 0)

  -- the smallest start of a match of the rule in place a that ends at a gap with a position of the
  -- set, or d if that is smaller
  unfoldable pub start_at : (gap : ℕ) → (set starts : List ℕ) → (d a : ℕ) → ℕ
  start_at gap set starts d a = smallest max_positions (λ p. has set p && last w gap a p) (λ p. get_or starts p 0) d

  -- the same for each of some rules, a digit for each place; 0 for every other
  unfoldable pub starts_at : (rules gap : ℕ) → (set starts from : List ℕ) → List ℕ
  starts_at rules gap set starts from = list_from 0 max_rules (λ a. cond (on rules a) (start_at gap set starts (get_or from a 0) a) 0)

-- starts of positions of which only those of a set have one; every other has 0
pub record OnlyIn (set starts : List ℕ) : Type 0 where
  pub as_long : length starts ≡ max_positions
  pub none : (q : ℕ) → q < max_positions → has set q ≡ false → get_or starts q 0 ≡ 0

-- What a byte makes of the starts of the live positions, put in place of them, with the help of
-- spare ones that are all 0, and are so again: `keeping` are the live positions that keep a start.
pub record StartsInPlace (t : List ℕ) (before after : Side) (live keeping next : List ℕ) (taken : ℕ) (starts spare starts' spare' : List ℕ) : Type 0 where
  pub starts_are : spare ≡ list_from 0 max_positions (λ q. 0) → OnlyIn live starts
      → starts' ≡ list_on t max_positions (stepped_starts (automaton t) false before after keeping starts next taken)
  pub spare_is : spare ≡ list_from 0 max_positions (λ q. 0) → spare' ≡ spare
