-- The second table of a rule table: "whose entries are whole live sets, told apart also by the last
-- byte's kind and by what is held, the first 64 of them besides the start, or all if fewer, breadth
-- first, bytes rising". "Rules with flag 256 or a smallest length are left to the old way
-- entirely." Assumes nothing: these are definitions.
use Rattle.std.specs.Prelude.{Bool, true, false, cond, not, ◌&&◌, ◌||◌, List, [], ◌∷◌, ◌++◌, ℕ, zero, suc, ◌+◌, ◌-◌, ◌*◌, ◌/◌, ◌%◌, eqb, leb, ltb, length, get_or}
use Rattle.std.specs.Int.Bits.{bit_and}
use Rattle.sets.specs.Set.{has, any, empty_set, is_empty, intersection_of, complement_of, size_of}
use Rattle.kinds.specs.declared.Side.{Side}
use Rattle.kinds.specs.declared.Side.TheVariants.{Other, Word, Newline}
use Rattle.kinds.specs.Side.{side_of, side_word}
use Rattle.table.specs.Layout.{max_positions}
use Rattle.table.specs.Gaps.{between, unsettled}
use Rattle.table.specs.Automaton.{Automaton}
use Rattle.steps.specs.Step.{ends, ends_newly, late_in, keepers_of, rules_where}
use Rattle.stream.specs.declared.Stream.{Stream}
use Rattle.stream.specs.Byte.{next_live, next_held, next_pending}
use Rattle.second.specs.declared.Key.{Key}
use Rattle.second.specs.Layout.{second_format, max_entries, row_at, no_entry}

-- ---- what entries are told apart by

-- the same words
unfoldable pub same_words : List ℕ → List ℕ → Bool
same_words [] [] = true
same_words [] (y ∷ t) = false
same_words (x ∷ s) [] = false
same_words (x ∷ s) (y ∷ t) = eqb x y && same_words s t

unfoldable pub same_key : Key → Key → Bool
same_key k j =
    same_words k.live j.live && (same_words k.held j.held
    && (eqb k.pending j.pending && eqb (side_word k.last) (side_word j.last)))

-- the start: nothing is taken
abbrev pub start_key : Key
start_key = record { live = empty_set; held = empty_set; pending = 0; last = Other }

-- A state at entry e: of the bytes taken it counts only whether there are some, and entry 0 alone
-- has none.
abbrev pub state_at : (e : ℕ) → Key → Stream
state_at e k = record {
  live = k.live;
  held = k.held;
  reported = 0;
  pending = k.pending;
  last = k.last;
  taken = e;
  rules = 0;
  positions = 0;
  closed = false;
}

-- the first number below n that passes a test, or n
unfoldable pub first_of : ℕ → (ℕ → Bool) → ℕ
first_of zero f = 0
first_of (suc n) f = cond (ltb (first_of n f) n) (first_of n f) (cond (f n) n (suc n))

module _ (w : Automaton) where
  -- what byte x makes of an entry
  abbrev pub reached : (e : ℕ) → Key → ℕ → Key
  reached e k x =
      let s : Stream = state_at e k in
      record { live = next_live w s x; held = next_held w s x; pending = next_pending w s x; last = side_of x }

  -- a set, and a key, without the positions of the rules that need a start. Held pairs of such
  -- rules need not be left out: in a table made by additions there are none, and in any other
  -- `needs_old` keeps the byte from leading on.
  abbrev pub apart : List ℕ → List ℕ
  apart set = intersection_of set (complement_of (keepers_of w))

  abbrev pub startless : Key → Key
  startless k = record { live = apart k.live; held = apart k.held; pending = k.pending; last = k.last }

  -- what byte x makes of an entry for the rules that need no start; it becomes an entry even where
  -- the byte leads to none
  unfoldable pub next_key : (e : ℕ) → Key → ℕ → Key
  next_key e k x = startless (reached e k x)

  -- where a key stands among the entries besides the start; their number, where it does not
  unfoldable pub place_of : List Key → Key → ℕ
  place_of es k = first_of (length es) (λ e. not (eqb e 0) && same_key (get_or es e start_key) k)

  -- the entries with one more, unless it is there or there are as many as there may be
  unfoldable pub with_key : List Key → Key → List Key
  with_key es k = cond (ltb (place_of es k) (length es) || leb max_entries (length es)) es (es ++ k ∷ [])

  -- The entries once n bytes are asked: 256 of the first entry, by rising byte, then 256 of the
  -- second, and so on, as long as there are entries.
  unfoldable pub found : ℕ → List Key
  found zero = start_key ∷ []
  found (suc n) =
      cond (ltb (n / 256) (length (found n))) (with_key (found n) (next_key (n / 256) (get_or (found n) (n / 256) start_key) (n % 256))) (found n)

  abbrev pub entries : List Key
  entries = found (max_entries * 256)

  -- the rules that a live set ends whatever follows, and those that it ends before a byte of a side
  abbrev pub own_of : Key → ℕ
  own_of k = rules_where w (ends w unsettled k.live)

  abbrev pub late_of : Key → Side → ℕ
  late_of k side = rules_where w (ends_newly w (between k.last side) (late_in w k.live) unsettled k.live)

  -- whether some rules have one that reports a start, or a set a position that keeps one
  abbrev pub tells_start : (rules : ℕ) → Bool
  tells_start rules = not (eqb (bit_and rules (rules_where w w.leftmost)) 0)

  abbrev pub keeps_start : List ℕ → Bool
  keeps_start set = any max_positions (λ q. has set q && has (keepers_of w) q)

  -- Whether a rule that needs a start has a part in what byte x does at an entry: such a byte leads
  -- to no entry. The rule's positions may be live or held after it, and where the words are not
  -- those of additions, the rule may end without one.
  unfoldable pub needs_old : (e : ℕ) → Key → ℕ → Bool
  needs_old e k x =
      let j : Key = reached e k x in
      (keeps_start j.live || keeps_start j.held)
      || (tells_start j.pending || (tells_start (late_of k (side_of x)) || tells_start (own_of j)))

  -- the record of an entry
  abbrev pub record_of : Key → List ℕ
  record_of k =
      get_or k.live 0 0 ∷ get_or k.live 1 0 ∷ get_or k.live 2 0 ∷ get_or k.live 3 0
      ∷ get_or k.held 0 0 ∷ get_or k.held 1 0 ∷ get_or k.held 2 0 ∷ get_or k.held 3 0
      ∷ k.pending ∷ side_word k.last ∷ own_of k ∷ late_of k Other ∷ late_of k Word ∷ late_of k Newline
      ∷ size_of k.live ∷ 0 ∷ []

-- ---- the words

module _ (w : Automaton) (es : List Key) where
  abbrev pub key_at : ℕ → Key
  key_at e = get_or es e start_key

  unfoldable pub entry_record : ℕ → List ℕ
  entry_record e = record_of w (key_at e)

  -- the entry that byte x leads to from entry e; their number, where it leads to none
  unfoldable pub leads_to : (e x : ℕ) → ℕ
  leads_to e x = cond (needs_old w e (key_at e) x) (length es) (place_of w es (next_key w e (key_at e) x))

  -- no rule ends before the byte or with it, and something is live before it or after it
  unfoldable pub is_quiet : (e j x : ℕ) → Bool
  is_quiet e j x =
      (eqb (late_of w (key_at e) (side_of x)) 0 && eqb (own_of w (key_at j)) 0)
      && not (is_empty (key_at e).live && is_empty (key_at j).live)

  unfoldable pub target_of : (e x : ℕ) → ℕ
  target_of e x = cond (ltb (leads_to e x) (length es)) (row_at (leads_to e x) + cond (is_quiet e (leads_to e x) x) 0 1) no_entry

  -- the first entry besides the start that has nothing live, after a byte of this side
  unfoldable pub rests_at : Side → ℕ
  rests_at side = first_of (length es) (λ e. not (eqb e 0) && (is_empty (key_at e).live && eqb (side_word (key_at e).last) (side_word side)))

  abbrev pub resting_word : Side → ℕ
  resting_word side = cond (ltb (rests_at side) (length es)) (row_at (rests_at side)) 0

  -- the word at place i: the header, the entries' records, and their rows; what is not used is 0
  unfoldable pub header_word : ℕ → ℕ
  header_word i = get_or (second_format ∷ w.rules ∷ w.positions ∷ length es ∷ resting_word Other ∷ resting_word Word ∷ resting_word Newline ∷ []) i 0

  unfoldable pub records_word : ℕ → ℕ
  records_word i = cond (ltb ((i - 16) / 16) (length es)) (get_or (entry_record ((i - 16) / 16)) ((i - 16) % 16) 0) 0

  unfoldable pub rows_word : ℕ → ℕ
  rows_word i = cond (ltb ((i - 4096) / 256) (length es)) (target_of ((i - 4096) / 256) ((i - 4096) % 256)) 0

  unfoldable pub second_word : ℕ → ℕ
  second_word i = cond (ltb i 16) (header_word i) (cond (ltb i 4096) (records_word i) (rows_word i))
