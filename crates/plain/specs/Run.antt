-- A log, byte by byte: the marks after each byte, the least starts with which the rule can end at a
-- gap as more is known of it, and what is reported. Answer gives the reports by meaning; this is
-- how they are worked out. Assumes nothing: these are definitions.
use Rattle.std.specs.Prelude.{Bool, true, false, cond, not, ◌&&◌, List, [], ◌∷◌, ◌++◌, map, ℕ, zero, suc, ◌+◌, eqb, leb, length, get_or, take, drop, replicate}
use Rattle.meaning.specs.Form.{Form}
use Rattle.meaning.specs.Gap.{Known, edge, unknown}
use Rattle.meaning.specs.Rule.{Assertion, world, ByteSet, Windows}
use Rattle.marks.specs.Marks.{none, ends, moved}
use Rattle.marks.specs.Gaps.{before_gap, after_gap, taken}

-- ---- marks and ends

module _ (bytes : List ℕ) (f : Form ByteSet Assertion) where
  abbrev pub before : ℕ → Known
  before = before_gap bytes

  abbrev pub after : ℕ → Known
  after = after_gap bytes

  -- the marks when k bytes are taken
  unfoldable pub marks_at : ℕ → List ℕ
  marks_at zero = replicate 256 none
  marks_at (suc k) = moved (world (before k) (after k) false) (taken bytes k) f 0 k (marks_at k)

  -- the least start of a match that ends at offset k, settled with its last byte; and with the next
  -- byte
  unfoldable pub own_at : ℕ → ℕ
  own_at zero = none
  own_at (suc k) = ends (world (before (suc k)) unknown false) f 0 (marks_at (suc k))

  unfoldable pub late_at : ℕ → ℕ
  late_at k = ends (world (before k) (after k) false) f 0 (marks_at k)

  -- where k is the last byte's offset: before it, and behind it, once the end is known
  unfoldable pub line_at : ℕ → ℕ
  line_at k = ends (world (before k) (after k) (eqb (get_or bytes k 0) 10)) f 0 (marks_at k)

  unfoldable pub end_at : ℕ → ℕ
  end_at k = ends (world (before (suc k)) edge true) f 0 (moved (world (before k) (after k) (eqb (get_or bytes k 0) 10)) (taken bytes k) f 0 k (marks_at k))

-- ---- reports

-- a report: its end offset, and its start where the rule asks for starts, else 0
abbrev pub Hit : Type 0
Hit = ℕ × ℕ

abbrev pub shown : Bool → ℕ → ℕ
shown leftmost x = cond leftmost x 0

-- The windows let a match from x to e through. The least start has the longest match, so some start
-- is let through exactly if that one is; `none` never is.
abbrev pub inside : Windows → (e x : ℕ) → Bool
inside v e x =
    (leb v.smallest_end e && leb e v.largest_end) && leb (x + v.smallest_length) e

-- what a rule asks for besides its tree
abbrev pub Choice : Type 0
Choice = Bool × Windows

-- offset e with the least start x, if it is new and let through
abbrev pub pick : Choice → Bool → (e x : ℕ) → List Hit
pick c new e x = cond (new && inside c.1 e x) ((e, shown c.0 x) ∷ []) []

module _ (c : Choice) (bytes : List ℕ) (f : Form ByteSet Assertion) where
  abbrev within : (e x : ℕ) → Bool
  within e x = inside c.1 e x

  -- what falls with the first k bytes, in its order, and at the closing
  unfoldable pub up_to : ℕ → List Hit
  up_to zero = []
  up_to (suc k) =
      (up_to k ++ pick c (not (within k (own_at bytes f k))) k (late_at bytes f k))
      ++ pick c true (suc k) (own_at bytes f (suc k))

  unfoldable pub closed : ℕ → List Hit
  closed zero = []
  closed (suc k) =
      (up_to (suc k)
      ++ pick c (not (within k (own_at bytes f k)) && not (within k (late_at bytes f k))) k (line_at bytes f k))
      ++ pick c (not (within (suc k) (own_at bytes f (suc k)))) (suc k) (end_at bytes f k)

-- "Of a single-match rule only the first stays."
abbrev pub kept : Bool → List Hit → List Hit
kept single l = cond single (take 1 l) l

-- the two lent lists
pub record Lent : Type 0 where
  pub offsets : List ℕ
  pub starts : List ℕ

abbrev pub lent : (offsets starts : List ℕ) → Lent
lent offsets starts = record { offsets = offsets; starts = starts }

-- the lent lists with these reports at their front; the slots past them keep their values
abbrev pub filled : Lent → List Hit → Lent
filled old l =
    lent (map (λ h. h.0) l ++ drop (length l) old.offsets)
    (map (λ h. h.1) l ++ drop (length l) old.starts)
