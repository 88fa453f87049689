-- The gaps of a stream by number: a table has a set for each. A gap's number says what its two
-- sides are to the assertions, and no more: where neither side is a newline, it counts only whether
-- the two sides are alike. Assumes nothing: these are definitions.
use Rattle.std.specs.Prelude.{ℕ, Bool, cond, ◌==◌}
use Rattle.kinds.specs.declared.Side.{Side}
use Rattle.kinds.specs.declared.Side.TheVariants.{Other, Word, Newline}

-- between two bytes
unfoldable pub between : (before after : Side) → ℕ
between Other Other = 0
between Word Word = 0
between Other Word = 1
between Word Other = 1
between Other Newline = 2
between Word Newline = 3
between Newline Newline = 4
between Newline Other = 5
between Newline Word = 6

-- between a byte and a newline that is the last byte
unfoldable pub before_last : (before : Side) → ℕ
before_last Other = 7
before_last Word = 8
before_last Newline = 9

-- after a byte, and it is not known what follows
abbrev pub unsettled : ℕ
unsettled = 10

-- after the last byte, at the stream's end: "both stream ends counting as not a word"
unfoldable pub at_the_end : (before : Side) → ℕ
at_the_end Other = 11
at_the_end Newline = 11
at_the_end Word = 12

-- at the stream's start, before a byte, and before a newline that is the only byte
unfoldable pub at_the_start : (after : Side) → ℕ
at_the_start Other = 13
at_the_start Word = 14
at_the_start Newline = 15

abbrev pub start_of_last : ℕ
start_of_last = 16

-- For how many gaps, from number 0 on, there are follow sets, last sets and first sets: positions
-- follow one another between two bytes, a match ends after a byte, and the first sets of gaps 10 to
-- 12 are not used.
abbrev pub follow_gaps : ℕ
follow_gaps = 10

abbrev pub last_gaps : ℕ
last_gaps = 13

abbrev pub first_gaps : ℕ
first_gaps = 17

-- how many gaps there are between two bytes where no newline is the last byte
abbrev pub inner_gaps : ℕ
inner_gaps = 7

-- the gap between two bytes; where `line` is true, the second is a newline and the last byte
unfoldable pub gap_of : (line : Bool) → (before after : Side) → ℕ
gap_of line before after = cond line (before_last before) (between before after)

-- the gap before a byte, `taken` bytes into the stream: "`^` and `\A` hold at offset 0 only"
unfoldable pub first_gap : (line : Bool) → (taken : ℕ) → (before after : Side) → ℕ
first_gap line taken before after = cond (taken == 0) (cond line start_of_last (at_the_start after)) (gap_of line before after)
