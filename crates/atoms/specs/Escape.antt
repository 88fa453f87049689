-- Escapes. Assumes nothing: these are definitions. v is the pattern from the place that the comment
-- names.
use Rattle.std.specs.Prelude.{Bool, true, false, cond, ◌&&◌, List, [], ◌∷◌, ℕ, ◌+◌, ◌-◌, eqb, leb, length, get_or, take, drop}
use Rattle.kinds.specs.Kind.{within, is_lower, is_alnum}
use Rattle.kinds.specs.Case.{other_case}
use Rattle.kinds.specs.declared.Kind.TheVariants.{Digit, Word, Space, Horizontal, Vertical}
use Rattle.atoms.specs.declared.Atom.{Atom}
use Rattle.atoms.specs.declared.Atom.TheVariants.{Byte, OfKind, NotOfKind, NotNewline, Start, LastLine, End, WordEdge, NoWordEdge}
use Rattle.atoms.specs.Number.{Numeral}
use Rattle.atoms.specs.Number.{digits, value_from, numeral_of}

-- an escape or a class member: its lowest fault or 0, the bytes it takes, what it stands for
pub record Part : Type 0 where
  pub fault : ℕ
  pub size : ℕ
  pub atom : Atom

-- a part of so many bytes that stands for an atom
abbrev pub good : ℕ → Atom → Part
good size atom = record { fault = 0; size = size; atom = atom }

-- A faulty part. Its size, 0 for 6, says where a hyphen of a range would stand; its atom, `Byte 0`,
-- stands for nothing.
abbrev pub bad : ℕ → ℕ → Part
bad fault size = record { fault = fault; size = size; atom = Byte 0 }

-- "`\x{..}` hex and `\o{..}` octal take one or more digits and the closing brace": 6 without digits
-- and brace, 7 over 255. Here v is the pattern from the opening brace on, and the escape has two
-- bytes before it.
unfoldable pub braced_of : ℕ → List ℕ → Part
braced_of base v =
    let n : Numeral = numeral_of base (drop 1 v) in
    cond (n.some && eqb (get_or v (1 + n.size) 0) 125)
    (cond (leb n.value 255) (good (4 + n.size) (Byte n.value)) (bad 7 (4 + n.size)))
    (bad 6 0)

-- "up to two" digits: those at the front of v, after two bytes of the escape. "`\x` takes up to two
-- hex digits (none gives 0)"; "`\0` takes up to two further octal digits".
unfoldable pub short_of : ℕ → List ℕ → Part
short_of base v =
    let ds : List ℕ = take 2 (digits base v) in
    good (2 + length ds) (Byte (value_from base 0 ds))

-- a byte below 128 with "its 64 bit flipped"
unfoldable pub flipped64 : ℕ → ℕ
flipped64 x = cond (leb 64 x) (x - 64) (x + 64)

-- "raised to upper case"
unfoldable pub raised : ℕ → ℕ
raised x = cond (is_lower x) (other_case x) x

-- "`\c` takes a byte from 32 to 126, raised to upper case, its 64 bit flipped." v is the pattern
-- after `\c`.
unfoldable pub control_of : List ℕ → Part
control_of [] = bad 6 0
control_of (c ∷ v) = cond (within 32 126 c) (good 3 (Byte (flipped64 (raised c)))) (bad 6 0)

-- `\d \w \s \h \v`, "Capitals are complements"; `rest` where c is none of them
unfoldable pub type_of : ℕ → Part → Part
type_of c rest =
    cond (eqb c 100) (good 2 (OfKind Digit))
    (cond (eqb c 119) (good 2 (OfKind Word))
    (cond (eqb c 115) (good 2 (OfKind Space))
    (cond (eqb c 104) (good 2 (OfKind Horizontal))
    (cond (eqb c 118) (good 2 (OfKind Vertical))
    (cond (eqb c 68) (good 2 (NotOfKind Digit))
    (cond (eqb c 87) (good 2 (NotOfKind Word))
    (cond (eqb c 83) (good 2 (NotOfKind Space))
    (cond (eqb c 72) (good 2 (NotOfKind Horizontal))
    (cond (eqb c 86) (good 2 (NotOfKind Vertical))
    rest)))))))))

-- "`\a` 7, `\e` 27, `\f` 12, `\n` 10, `\r` 13, `\t` 9"; `rest` where c is none of them
unfoldable pub named_of : ℕ → Part → Part
named_of c rest =
    cond (eqb c 97) (good 2 (Byte 7))
    (cond (eqb c 101) (good 2 (Byte 27))
    (cond (eqb c 102) (good 2 (Byte 12))
    (cond (eqb c 110) (good 2 (Byte 10))
    (cond (eqb c 114) (good 2 (Byte 13))
    (cond (eqb c 116) (good 2 (Byte 9))
    rest)))))

-- What differs in a class: "Inside, `\b` is 8", and `\N`, `\A`, `\z` are 14 there. "`\N` is any
-- byte but 10 always." "PCRE also lets `$` hold just before a newline that is the last byte. Mend
-- it, and add `\Z` with the same meaning (14 in a class); `\z` stays." "Add `\b` and `\B` on `\w`":
-- 14 lets through "`\b` and, outside a class, `\B`". Else 14: "any other letter or digit escape".
-- (`\Q` and `\E` are read as marks of quotes before, and never come here.)
unfoldable pub placed_of : Bool → ℕ → Part
placed_of true c = cond (eqb c 98) (good 2 (Byte 8)) (bad 14 2)
placed_of false c =
    cond (eqb c 78) (good 2 NotNewline)
    (cond (eqb c 65) (good 2 Start)
    (cond (eqb c 90) (good 2 LastLine)
    (cond (eqb c 122) (good 2 End)
    (cond (eqb c 98) (good 2 WordEdge)
    (cond (eqb c 66) (good 2 NoWordEdge)
    (bad 14 2))))))

-- after `\x`: v is the pattern from there on
unfoldable pub hex_of : List ℕ → Part
hex_of v = cond (eqb (get_or v 0 0) 123) (braced_of 16 v) (short_of 16 v)

-- after `\o`: "`\x{` or `\o` without digits and brace" is 6
unfoldable pub octal_of : List ℕ → Part
octal_of v = cond (eqb (get_or v 0 0) 123) (braced_of 8 v) (bad 6 0)

-- The escape whose backslash stands before v. "`\` before a byte that is no ASCII letter or digit
-- makes it literal"; "`\` at the end" is 6.
unfoldable pub escape_of : Bool → List ℕ → Part
escape_of inside [] = bad 6 0
escape_of inside (c ∷ v) =
    cond (is_alnum c)
    (cond (eqb c 120) (hex_of v)
    (cond (eqb c 111) (octal_of v)
    (cond (eqb c 48) (short_of 8 v)
    (cond (eqb c 99) (control_of v)
    (named_of c (type_of c (placed_of inside c)))))))
    (good 2 (Byte c))
