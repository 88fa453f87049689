-- Quantifiers with their mark. Assumes nothing: these are definitions.
use Rattle.std.specs.Prelude.{Bool, true, false, cond, ◌&&◌, List, ℕ, ◌+◌, ◌-◌, eqb, leb, ltb, get_or, drop}
use Rattle.atoms.specs.Number.{Numeral}
use Rattle.tokens.specs.Lexeme.{Repeat}
use Rattle.tokens.specs.Lexeme.{Lexeme}
use Rattle.atoms.specs.Number.{numeral_of, cap}
use Rattle.atoms.specs.Fault.{lower}

-- A quantifier without its mark: whether one stands here at all, its bytes, its fault 11 or 0, the
-- least number of copies, and how many more.
pub record Form : Type 0 where
  pub is : Bool
  pub size : ℕ
  pub fault : ℕ
  pub least : ℕ
  pub extra : ℕ

-- no quantifier stands here
abbrev pub no_form : Form
no_form = record { is = false; size = 0; fault = 0; least = 0; extra = 0 }

-- `extra` is how many copies more than `least`; extra = `cap` stands for any number more
abbrev pub form : ℕ → ℕ → ℕ → Form
form size least extra = record { is = true; size = size; fault = 0; least = least; extra = extra }

-- 11: "lower repeat above upper, or a number above 65,535"
unfoldable pub bounded : ℕ → ℕ → ℕ → Form
bounded size lo hi =
    cond (ltb lo cap && (ltb hi cap && leb lo hi)) (form size lo (hi - lo))
    (record { is = true; size = size; fault = 11; least = 0; extra = 0 })

-- `{n,}`: 11 for a number above 65,535
unfoldable pub open_ended : ℕ → ℕ → Form
open_ended size lo = cond (ltb lo cap) (form size lo cap) (record { is = true; size = size; fault = 11; least = 0; extra = 0 })

-- "`{n}`, `{n,}`, `{n,m}`, `{,m}`. .. A brace that isn't one of these forms is literal, so `{,}` is
-- three bytes": v is the pattern after the brace. The lower number of `{,m}` is 0, as no digits
-- have the value 0.
unfoldable pub braces_of : List ℕ → Form
braces_of v =
    let a : Numeral = numeral_of 10 v in
    let b : Numeral = numeral_of 10 (drop (a.size + 1) v) in
    let c : ℕ = get_or v a.size 0 in
    let d : ℕ = get_or v (a.size + (1 + b.size)) 0 in
    cond (eqb c 125) (cond a.some (bounded (2 + a.size) a.value a.value) no_form)
    (cond (eqb c 44 && eqb d 125)
    (cond b.some (bounded (3 + (a.size + b.size)) a.value b.value)
    (cond a.some (open_ended (3 + (a.size + b.size)) a.value) no_form))
    no_form)

-- "Quantifiers `?`, `*`, `+`", or a brace form: the one at the front of v
unfoldable pub form_of : List ℕ → Form
form_of v =
    let c : ℕ = get_or v 0 0 in
    cond (eqb c 63) (form 1 0 1)
    (cond (eqb c 42) (form 1 0 cap)
    (cond (eqb c 43) (form 1 1 cap)
    (cond (eqb c 123) (braces_of (drop 1 v)) no_form)))

-- "A `?` after one is read and ignored"; "possessive `+`" is 14. The mark m after a form.
unfoldable pub marked : Form → ℕ → Lexeme
marked q m =
    let fault : ℕ = lower q.fault (cond (eqb m 43) 14 0) in
    cond (eqb fault 0)
    (record { fault = 0; size = q.size + cond (eqb m 63) 1 0; token = Repeat q.least q.extra })
    (record { fault = fault; size = 0; token = Repeat 0 0 })

-- the quantifier with its mark at the front of v
unfoldable pub quantifier_of : List ℕ → Lexeme
quantifier_of v = marked (form_of v) (get_or v (form_of v).size 0)
