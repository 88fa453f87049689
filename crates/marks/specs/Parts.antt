-- How the matcher works: gaps by number, masks over the gaps, and the parts of a written-out form
-- that take bytes, with their doors. What each part does to the marks is what its form does
-- (Marks): that is proved, so nothing here must be believed. Assumes nothing: these are
-- definitions.
use Rattle.std.specs.Prelude.{Bool, List, ℕ, suc, ◌+◌, min, get_or, set}
use Rattle.sets.specs.Set.{on}
use Rattle.kinds.specs.declared.Side.TheVariants.{Other, Word, Newline}
use Rattle.meaning.specs.Gap.{Known, byte, edge, unknown}
use Rattle.meaning.specs.Rule.{Assertion, at_start, at_last_line, at_end, line_start, line_end, word_edge, no_word_edge}
use Rattle.marks.specs.Marks.{none, when}

-- ---- gaps

-- what stands before a gap
abbrev pub side_code : Known → ℕ
side_code (byte Newline) = 1
side_code (byte Word) = 2
side_code (byte Other) = 3
side_code edge = 0
side_code unknown = 0

-- the gaps at which an assertion holds: a digit for each gap
abbrev pub mask_of : Assertion → ℕ
mask_of at_start = 1118481
mask_of at_end = 983040
mask_of at_last_line = 1044480
mask_of line_start = 1127219
mask_of line_end = 1044495
mask_of word_edge = 279732
mask_of no_word_edge = 768843

-- the world of gap g
abbrev pub world_of : ℕ → Assertion → Bool
world_of g a = on (mask_of a) g

abbrev pub all : ℕ
all = 16777215

-- ---- parts

-- the gaps at which a part can be entered, left, and entered again from its own end
pub record Doors : Type 0 where
  pub front : ℕ
  pub back : ℕ
  pub round : ℕ

-- An item with the number of its node; or two parts, one after the other or one of two, with the
-- gaps at which each of them can be passed without a byte.
pub data Part : Type 0 where
  one : Doors → (node : ℕ) → Part
  then : Doors → (left right : ℕ) → Part → Part → Part
  or : Doors → Part → Part → Part

abbrev pub doors_of : Part → Doors
doors_of (one d k) = d
doors_of (then d l r x y) = d
doors_of (or d x y) = d

unfoldable pub size_of : Part → ℕ
size_of (one d k) = 1
size_of (then d l r x y) = size_of x + size_of y
size_of (or d x y) = size_of x + size_of y

-- the row of a part, counted from its first one
unfoldable pub last_of : Part → ℕ
last_of (one d k) = 0
last_of (then d l r x y) = suc (last_of x) + suc (last_of y)
last_of (or d x y) = suc (last_of x) + suc (last_of y)

module _ (g : ℕ) where
  -- what can end in a part, behind its doors and before them
  unfoldable pub core_p : Part → (b : ℕ) → List ℕ → ℕ
  core_p (one d k) b ms = min (get_or ms b 0) none
  core_p (then d l r x y) b ms =
      min (when (on r g) (when (on (doors_of x).back g) (core_p x b ms)))
      (when (on (doors_of y).back g) (core_p y (b + size_of x) ms))
  core_p (or d x y) b ms =
      min (when (on (doors_of x).back g) (core_p x b ms))
      (when (on (doors_of y).back g) (core_p y (b + size_of x) ms))

  abbrev pub ends_p : Part → (b : ℕ) → List ℕ → ℕ
  ends_p p b ms = when (on (doors_of p).back g) (core_p p b ms)

  -- what comes to its inside, where i comes to it
  abbrev pub entered_p : Part → (b i : ℕ) → List ℕ → ℕ
  entered_p p b i ms = min (when (on (doors_of p).front g) i) (when (on (doors_of p).round g) (core_p p b ms))

  -- the marks ms once the items have taken a byte, where rs are those before; the right part is
  -- done first
  module _ (hits : ℕ → Bool) where
    unfoldable pub moved_p : Part → (b i : ℕ) → (rs ms : List ℕ) → List ℕ
    moved_p (one d k) b i rs ms = set ms b (when (hits k) (entered_p (one d k) b i rs))
    moved_p (then d l r x y) b i rs ms =
        moved_p x b (entered_p (then d l r x y) b i rs) rs
        (moved_p y (b + size_of x) (min (when (on l g) (entered_p (then d l r x y) b i rs)) (ends_p x b rs)) rs ms)
    moved_p (or d x y) b i rs ms =
        moved_p x b (entered_p (or d x y) b i rs) rs
        (moved_p y (b + size_of x) (entered_p (or d x y) b i rs) rs ms)
