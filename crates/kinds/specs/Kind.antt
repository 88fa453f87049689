-- What a byte is. Each kind is a predicate on the byte's number, by ranges. What stands in quotes
-- is quoted from the product's rules.
use Rattle.std.specs.Prelude.{Bool, not, ◌&&◌, ◌||◌, List, [], ◌∷◌, ℕ, ◌+◌, ◌*◌, leb, eqb}
use Rattle.sets.specs.Set.{as_one}
use Rattle.kinds.specs.declared.Kind.{Kind}
use Rattle.kinds.specs.declared.Kind.TheVariants.{Digit, Word, Space, Horizontal, Vertical, Alpha, Lower, Upper, Alnum, Ascii, Blank, Cntrl, Graph, Print, Punct, Xdigit}

-- b is one of lo, lo + 1, .., hi
abbrev pub within : ℕ → ℕ → ℕ → Bool
within lo hi b = leb lo b && leb b hi

-- "`\d` 48-57"
unfoldable pub is_digit : ℕ → Bool
is_digit b = within 48 57 b

-- a to z: "Letters with case are ASCII only."
unfoldable pub is_lower : ℕ → Bool
is_lower b = within 97 122 b

-- A to Z: "Letters with case are ASCII only."
unfoldable pub is_upper : ℕ → Bool
is_upper b = within 65 90 b

-- "`\w` letters, digits, underscore"
unfoldable pub is_word : ℕ → Bool
is_word b = is_lower b || is_upper b || is_digit b || eqb b 95

-- "`\s` 9-13, 32"
unfoldable pub is_space : ℕ → Bool
is_space b = within 9 13 b || eqb b 32

-- "`\h` 9, 32, 160"
unfoldable pub is_horizontal : ℕ → Bool
is_horizontal b = eqb b 9 || eqb b 32 || eqb b 160

-- "`\v` 10-13, 133"
unfoldable pub is_vertical : ℕ → Bool
is_vertical b = within 10 13 b || eqb b 133

-- ---- the classes by name, "with the ASCII meaning", that are none of these

-- letters
unfoldable pub is_alpha : ℕ → Bool
is_alpha b = is_lower b || is_upper b

-- letters and digits
unfoldable pub is_alnum : ℕ → Bool
is_alnum b = is_alpha b || is_digit b

-- 0 to 127
unfoldable pub is_ascii : ℕ → Bool
is_ascii b = leb b 127

-- space and tab
unfoldable pub is_blank : ℕ → Bool
is_blank b = eqb b 32 || eqb b 9

-- control bytes
unfoldable pub is_cntrl : ℕ → Bool
is_cntrl b = leb b 31 || eqb b 127

-- printing bytes without the space
unfoldable pub is_graph : ℕ → Bool
is_graph b = within 33 126 b

-- printing bytes with the space
unfoldable pub is_print : ℕ → Bool
is_print b = within 32 126 b

-- printing bytes that are no space, letter or digit
unfoldable pub is_punct : ℕ → Bool
is_punct b = is_graph b && not (is_alnum b)

-- hexadecimal digits
unfoldable pub is_xdigit : ℕ → Bool
is_xdigit b = is_digit b || within 65 70 b || within 97 102 b

-- the bytes of a type or of a class by name
abbrev pub is_kind : Kind → ℕ → Bool
is_kind Digit = is_digit
is_kind Word = is_word
is_kind Space = is_space
is_kind Horizontal = is_horizontal
is_kind Vertical = is_vertical
is_kind Alpha = is_alpha
is_kind Lower = is_lower
is_kind Upper = is_upper
is_kind Alnum = is_alnum
is_kind Ascii = is_ascii
is_kind Blank = is_blank
is_kind Cntrl = is_cntrl
is_kind Graph = is_graph
is_kind Print = is_print
is_kind Punct = is_punct
is_kind Xdigit = is_xdigit

-- the bytes of a type's capital, "Capitals are complements.", or of a negated class by name
abbrev pub is_not_kind : Kind → ℕ → Bool
is_not_kind k b = not (is_kind k b)

-- all kinds, in the order of their bits: 1, 2, 4, .., 32,768
abbrev pub kinds : List (ℕ → Bool)
kinds =
    is_digit ∷ is_word ∷ is_space ∷ is_horizontal ∷ is_vertical ∷ is_lower ∷ is_upper ∷ is_alpha ∷ is_alnum ∷ is_ascii ∷ is_blank ∷ is_cntrl ∷ is_graph ∷ is_print
    ∷ is_punct ∷ is_xdigit ∷ []

-- the number whose bits say which of the predicates hold of b; the first has the lowest bit
unfoldable pub bits_of : List (ℕ → Bool) → ℕ → ℕ
bits_of [] b = 0
bits_of (p ∷ ps) b = as_one (p b) + bits_of ps b * 2

-- the kinds of b, as bits
unfoldable pub kinds_of : ℕ → ℕ
kinds_of b = bits_of kinds b
