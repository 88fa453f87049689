-- Numbers written in digits. Assumes nothing: these are definitions.
use Rattle.std.specs.Prelude.{Bool, true, false, cond, List, [], ◌∷◌, ℕ, suc, ◌+◌, ◌-◌, ◌*◌, min, ltb, length, drop}
use Rattle.kinds.specs.Kind.{within, is_blank}

-- what a byte is worth as a digit, in either case; 16 where it is no digit in any base
unfoldable pub digit_of : ℕ → ℕ
digit_of b = cond (within 48 57 b) (b - 48) (cond (within 65 70 b) (b - 55) (cond (within 97 102 b) (b - 87) 16))

-- the digits at the front
unfoldable pub digits : ℕ → List ℕ → List ℕ
digits base [] = []
digits base (b ∷ v) = cond (ltb (digit_of b) base) (digit_of b ∷ digits base v) []

-- the number that some digits make after the number acc
unfoldable pub value_from : ℕ → ℕ → List ℕ → ℕ
value_from base acc [] = acc
value_from base acc (d ∷ ds) = value_from base (acc * base + d) ds

-- numbers are kept exactly up to 65,535; every larger one counts as this
abbrev pub cap : ℕ
cap = 65536

-- there is a digit
abbrev pub some : List ℕ → Bool
some [] = false
some (d ∷ ds) = true

-- "spaces and tabs after `{`, before `}` and around the comma": how many stand at the front
unfoldable pub blanks : List ℕ → ℕ
blanks [] = 0
blanks (b ∷ v) = cond (is_blank b) (suc (blanks v)) 0

-- a number: its value, whether it has a digit, its size in bytes
pub record Numeral : Type 0 where
  pub value : ℕ
  pub some : Bool
  pub size : ℕ

-- The number at the front, as it stands between braces, with the blanks around it: its value,
-- whether it has a digit, its size in bytes. "Spaces alone make no number".
unfoldable pub numeral_of : ℕ → List ℕ → Numeral
numeral_of base v =
    let w : List ℕ = drop (blanks v) v in
    let ds : List ℕ = digits base w in
    record { value = min cap (value_from base 0 ds); some = some ds; size = blanks v + (length ds + blanks (drop (length ds) w)) }
