-- Rules, the assertions of the product, and what a rule matches in a stream. Assumes nothing: these
-- are definitions.
use Rattle.std.specs.Prelude.{Bool, true, false, cond, not, ◌&&◌, ◌||◌, List, ℕ, ◌+◌, ◌-◌, ◌^◌, ◌≤◌, ◌<◌, eqb}
use Rattle.sets.specs.Set.{has}
use Rattle.kinds.specs.declared.Side.TheVariants.{Other, Word, Newline}
use Rattle.meaning.specs.Tree.{Tree, Text, Means}
use Rattle.meaning.specs.Gap.{Gap, text, last_line}
use Rattle.meaning.specs.Gap.{Known, byte, edge, unknown, known_before, known_after}

-- "`^` and `\A` hold at offset 0 only"; `\z` holds "at the very end of the stream only"; "PCRE also
-- lets `$` hold just before a newline that is the last byte", "and add `\Z` with the same meaning".
-- In line mode "`^` also holds after a byte 10 that isn't the stream's last byte, `$` also before
-- any byte 10". "Add `\b` and `\B` on `\w`".
pub data Assertion : Type 0 where
  -- `\A`, and `^` outside line mode
  at_start : Assertion
  -- `\Z`, and `$` outside line mode
  at_last_line : Assertion
  -- `\z`
  at_end : Assertion
  -- `^` and `$` in line mode
  line_start : Assertion
  line_end : Assertion
  -- `\b` and `\B`
  word_edge : Assertion
  no_word_edge : Assertion

-- ---- what stands on one side of a gap

abbrev pub is_edge : Known → Bool
is_edge (byte s) = false
is_edge edge = true
is_edge unknown = false

abbrev pub is_byte : Known → Bool
is_byte (byte s) = true
is_byte edge = false
is_byte unknown = false

abbrev pub is_newline : Known → Bool
is_newline (byte Newline) = true
is_newline (byte Word) = false
is_newline (byte Other) = false
is_newline edge = false
is_newline unknown = false

-- "both stream ends counting as not a word"
abbrev pub is_word : Known → Bool
is_word (byte Newline) = false
is_word (byte Word) = true
is_word (byte Other) = false
is_word edge = false
is_word unknown = false

-- one side is a word and the other is not
abbrev pub edge_of_word : (before after : Known) → Bool
edge_of_word before after = cond (is_word before) (not (is_word after)) (is_word after)

-- A world says which assertions are known to hold at one gap, by what is known of its two sides and
-- by whether the last line ends there. What looks at the next byte is known once that byte is, or
-- the end.
abbrev pub world : (before after : Known) → (line : Bool) → Assertion → Bool
world before after line at_start = is_edge before
world before after line at_last_line = line
world before after line at_end = is_edge after
world before after line line_start = is_edge before || (is_newline before && is_byte after)
world before after line line_end = is_edge after || is_newline after
world before after line word_edge = (is_edge after || is_byte after) && edge_of_word before after
world before after line no_word_edge =
    (is_edge after || is_byte after) && not (edge_of_word before after)

-- an assertion is known to hold at a gap
abbrev pub holds : Assertion → Gap → Bool
holds a g =
    world (known_before g.before) (known_after g.after g.ended)
    (g.ended && last_line g.after) a

-- a set of bytes, in four 64-bit words
abbrev pub ByteSet : Type 0
ByteSet = List ℕ

-- "smallest and largest end offset, and smallest match length, each optional per rule"
pub record Windows : Type 0 where
  pub smallest_end : ℕ
  pub largest_end : ℕ
  pub smallest_length : ℕ

-- Windows that are left out: each with the value that keeps no match out, since an offset is below
-- the largest 64-bit number.
abbrev pub no_windows : Windows
no_windows = record { smallest_end = 0; largest_end = 2 ^ 64 - 1; smallest_length = 0 }

-- "all three hold" of a match from s to e
abbrev pub InWindows : Windows → (s e : ℕ) → Type 0
InWindows w s e = (w.smallest_end ≤ e) × (e ≤ w.largest_end) × (s + w.smallest_length ≤ e)

-- starts are needed where they are reported, or where a smallest length is asked of matches
abbrev pub start_is_needed : (starts : Bool) → Windows → Bool
start_is_needed starts w = starts || not (eqb w.smallest_length 0)

-- An accepted rule: its id, whether it has the flags "single match" and "leftmost start", its
-- windows, and the tree of its pattern.
pub record Rule : Type 0 where
  pub id : ℕ
  pub single : Bool
  pub starts : Bool
  pub windows : Windows
  pub tree : Tree ByteSet Assertion

-- the text of a stream: its bytes so far, and whether it has ended after them
abbrev pub stream : List ℕ → Bool → Text ByteSet Assertion
stream bytes ended = text has holds bytes ended

-- "exactly when some earlier start matches the rule up to there", "with assertions judged on the
-- whole stream"; "when some start matches and all three hold", "Demand 2's meaning reads the
-- windows."
abbrev pub MatchEnds : Rule → List ℕ → ℕ → Type 0
MatchEnds r bytes e =
    (s : ℕ)
    × (s < e)
    × Means (stream bytes true) r.tree s e
    × InWindows r.windows s e
