-- The two cases of a letter, and sets closed under case. What stands in quotes is quoted from the
-- product's rules.
use Rattle.std.specs.Prelude.{cond, ◌||◌, List, ℕ, ◌+◌, ◌-◌}
use Rattle.sets.specs.Set.{has, set_of}
use Rattle.kinds.specs.Kind.{is_lower, is_upper}
use Rattle.kinds.specs.declared.Kind.{Kind}
use Rattle.kinds.specs.declared.Kind.TheVariants.{Digit, Word, Space, Horizontal, Vertical, Alpha, Lower, Upper, Alnum, Ascii, Blank, Cntrl, Graph, Print, Punct, Xdigit}

-- the other case of a letter; any other byte itself: "Letters with case are ASCII only."
unfoldable pub other_case : ℕ → ℕ
other_case b = cond (is_lower b) (b - 32) (cond (is_upper b) (b + 32) b)

-- s and the other case of each member: "Caseless adds the other case of each member"
unfoldable pub case_closed : List ℕ → List ℕ
case_closed s = set_of (λ q. has s q || has s (other_case q))

-- "Under caseless, upper and lower read as alpha": what a kind is read as
abbrev pub uncased : Kind → Kind
uncased Digit = Digit
uncased Word = Word
uncased Space = Space
uncased Horizontal = Horizontal
uncased Vertical = Vertical
uncased Alpha = Alpha
uncased Lower = Alpha
uncased Upper = Alpha
uncased Alnum = Alnum
uncased Ascii = Ascii
uncased Blank = Blank
uncased Cntrl = Cntrl
uncased Graph = Graph
uncased Print = Print
uncased Punct = Punct
uncased Xdigit = Xdigit
