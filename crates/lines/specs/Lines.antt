-- Lines of a text, and rule lines. Assumes nothing: these are definitions.
use Rattle.std.specs.Prelude.{Bool, Option, None, Some, true, false, cond, ◌&&◌, List, [], ◌∷◌, ℕ, suc, ◌+◌, ◌-◌, ◌*◌, ◌^◌, eqb, leb, ltb, length, get_or, drop}
use Rattle.lines.specs.declared.RuleLine.{RuleLine}

-- how many bytes stand before the first byte 10: "Lines end at byte 10; the last may lack it."
unfoldable pub line_length : List ℕ → ℕ
line_length [] = 0
line_length (b ∷ v) = cond (eqb b 10) 0 (suc (line_length v))

-- where the line that begins at `from` ends
abbrev pub line_end : List ℕ → ℕ → ℕ
line_end text from = from + line_length (drop from text)

-- the decimal digits at the front
unfoldable pub digits_of : List ℕ → List ℕ
digits_of [] = []
digits_of (b ∷ v) = cond (leb 48 b && leb b 57) ((b - 48) ∷ digits_of v) []

-- the number that some digits make after the number acc
unfoldable pub value_from : ℕ → List ℕ → ℕ
value_from acc [] = acc
value_from acc (d ∷ ds) = value_from (acc * 10 + d) ds

-- A number of a rule line at the front of v: "1 to 10 digits, at most 4,294,967,295", then a space.
unfoldable pub is_field : List ℕ → Bool
is_field v =
    let ds : List ℕ = digits_of v in
    leb 1 (length ds) && (leb (length ds) 10 && (ltb (value_from 0 ds) (2 ^ 32) && eqb (get_or v (length ds) 0) 32))

-- its value
unfoldable pub field_value : List ℕ → ℕ
field_value v = value_from 0 (digits_of v)

-- its bytes, the space included
unfoldable pub field_size : List ℕ → ℕ
field_size v = length (digits_of v) + 1

-- what is read of a line: whether it is a rule line, its id, its flags, and where its pattern begins
pub record ReadLine : Type 0 where
  pub good : Bool
  pub id : ℕ
  pub flags : ℕ
  pub pattern : ℕ

-- what a line that is no rule line gives
abbrev pub malformed : ReadLine
malformed = record { good = false; id = 0; flags = 0; pattern = 0 }

-- what the reading of a line gives, as such a record
abbrev pub read_as : Option RuleLine → ReadLine
read_as None = malformed
read_as (Some r) = record { good = true; id = r.id; flags = r.flags; pattern = r.pattern }

-- "per line a decimal id, a space, decimal flags, a space, the pattern"; "anything else, an empty
-- line included, is malformed"
unfoldable pub rule_line_of : List ℕ → ReadLine
rule_line_of v =
    let rest : List ℕ = drop (field_size v) v in
    cond (is_field v && is_field rest)
    (record { good = true; id = field_value v; flags = field_value rest; pattern = field_size v + field_size rest })
    malformed
