-- What the private functions promise one another. No public contract cites it.
use Rattle.std.specs.Prelude.{cond, List, ℕ, Option, Some, None, min, ltb, length}
use Rattle.atoms.specs.Number.{Numeral, digit_of, digits, value_from, cap, some}

-- the digit that a byte is in a base
abbrev pub digit_in : (base b : ℕ) → Option ℕ
digit_in base b = cond (ltb (digit_of b) base) (Some (digit_of b)) None

-- the number that the digits at the front make, without the blanks around it
unfoldable pub made_of : ℕ → List ℕ → Numeral
made_of base v =
    let ds : List ℕ = digits base v in
    record { value = min cap (value_from base 0 ds); some = some ds; size = length ds }
