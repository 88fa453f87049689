-- Escapes, as the functions read them: each law says a definition of specs/Escape.antt at the bytes
-- from a place on by what the code has in hand there, so that a return only has to rewrite by its
-- tests.
use mathlib.Core.Path.{◌≡◌, refl, ap, ◌∙◌}
use mathlib.Core.Bool.{Bool, true, false, cond, ◌&&◌, and-false}
use mathlib.Core.List.{List, [], ◌∷◌}
use Prim.Native.Nat.{ℕ, ◌+◌, ◌*◌, ◌≤◌, ◌<◌}
use native.Mathlib.Omega.{arith}
use borrow.Author.Tests.{eq-eqb, ne_eqb}
use Rattle.std.specs.Prelude.{Option, Some, None}
use Rattle.std.specs.Option.{is_some, unwrap_or}
use lib.Dec.{eqb, leb}
use lib.ListN.{length, get_or, drop, drop_of_length-le}
use lib.Seq.{get_or-drop, drop-drop}
use Rattle.kinds.specs.Kind.{within, is_lower, is_upper, is_digit, is_alpha, is_alnum}
use Rattle.atoms.specs.Number.{digits, value_from, numeral_of}
use Rattle.atoms.specs.Escape.{good, bad, braced_of, short_of, flipped64, raised, control_of, type_of, named_of}
use Rattle.atoms.specs.Escape.{placed_of, hex_of, octal_of, escape_of}
use Rattle.atoms.specs.declared.Atom.TheVariants.{Byte}
use Rattle.atoms.specs.declared as declared
use Rattle.atoms.specs.Answer.{numeral}
use Rattle.atoms.specs.Invariants.{digit_in}
use Rattle.atoms.specs.Number.{Numeral}
use Rattle.atoms.proofs.Suffixes.{front, first}
use Rattle.atoms.proofs.Digits.{in-digit, no-digit-in, digit, no_digit}

-- the number n that stands after an opening brace, and the byte e after its digits
pub braced-is : (base : ℕ) (s : List ℕ) (at : ℕ) (n : Numeral) (e : ℕ) → n ≡ numeral_of base (drop (at + 1) s) → e ≡ get_or s (at + (1 + n.size)) 0
    → braced_of base (drop at s)
    ≡ cond (n.some && eqb e 125) (cond (leb n.value 255) (good (4 + n.size) (Byte n.value)) (bad 7 (4 + n.size))) (bad 6 0)
unfolding braced_of
braced-is base s at n e en ee = rw (drop-drop 1 at s, ← en, get_or-drop at s (1 + n.size) 0, ← ee)

module _ (base : ℕ) (s : List ℕ) (at : ℕ) (n : declared.Numeral.Numeral) where
  -- where it has a digit and its brace, and where it lacks one of them
  module _ (e : ℕ) (en : numeral n ≡ numeral_of base (drop (at + 1) s)) (ee : e ≡ get_or s (at + (1 + n.size)) 0) where
    pub braced-some : (v : ℕ) → n.value ≡ Some v → e ≡ 125
        → braced_of base (drop at s) ≡ cond (leb v 255) (good (4 + n.size) (Byte v)) (bad 7 (4 + n.size))
    braced-some v ev e125 =
        braced-is base s at (numeral n) e en ee
        ∙ ap (λ (o : Option ℕ).
        cond (is_some o && eqb e 125) (cond (leb (unwrap_or o 0) 255) (good (4 + n.size) (Byte (unwrap_or o 0))) (bad 7 (4 + n.size))) (bad 6 0)) ev
        ∙ rw (eq-eqb e 125 e125) refl

    pub braced-open : (e ≡ 125 → ⊥) → braced_of base (drop at s) ≡ bad 6 0
    braced-open h = braced-is base s at (numeral n) e en ee ∙ rw (ne_eqb e 125 h, and-false (is_some n.value)) refl

  pub braced-none : numeral n ≡ numeral_of base (drop (at + 1) s) → n.value ≡ None → braced_of base (drop at s) ≡ bad 6 0
  braced-none en ev =
      let e : ℕ = get_or s (at + (1 + n.size)) 0 in
      braced-is base s at (numeral n) e en refl
      ∙ ap (λ (o : Option ℕ).
      cond (is_some o && eqb e 125) (cond (leb (unwrap_or o 0) 255) (good (4 + n.size) (Byte (unwrap_or o 0))) (bad 7 (4 + n.size))) (bad 6 0)) ev

-- up to two digits, of which the code has the first two bytes
module _ (base : ℕ) (small : base ≤ 16) (s : List ℕ) (at : ℕ) where
  pub short_none : digit_in base (get_or s at 0) ≡ None → short_of base (drop at s) ≡ good 2 (Byte 0)
  unfolding short_of value_from
  short_none h = rw (no_digit s at base small (no-digit-in base (get_or s at 0) h))

  module _ (high : ℕ) (some : digit_in base (get_or s at 0) ≡ Some high) where
    two : digits base (drop at s) ≡ high ∷ digits base (drop (at + 1) s)
    two = let h = in-digit base (get_or s at 0) high some in rw (← h.1) (digit s at base small h.0)

    pub short-one : digit_in base (get_or s (at + 1) 0) ≡ None → short_of base (drop at s) ≡ good 3 (Byte high)
    unfolding short_of value_from
    short-one h =
        let z : 0 * base + high ≡ high = omega arith in
        rw (two, no_digit s (at + 1) base small (no-digit-in base (get_or s (at + 1) 0) h), z)

    pub short-two : (low : ℕ) → digit_in base (get_or s (at + 1) 0) ≡ Some low → short_of base (drop at s) ≡ good 4 (Byte (high * base + low))
    unfolding short_of value_from
    short-two low h =
        let z : 0 * base + high ≡ high = omega arith in
        let l = in-digit base (get_or s (at + 1) 0) low h in
        rw (two, digit s (at + 1) base small l.0, l.1, z)

-- `\c`: the byte 0, which stands for the pattern's end, is refused too
control-front : (v : List ℕ) → control_of v ≡ cond (within 32 126 (get_or v 0 0)) (good 3 (Byte (flipped64 (raised (get_or v 0 0))))) (bad 6 0)
unfolding control_of
control-front [] = refl
control-front (c ∷ v) = refl

pub control-is : (s : List ℕ) (at c : ℕ) → c ≡ get_or s at 0
    → control_of (drop at s) ≡ cond (within 32 126 c) (good 3 (Byte (flipped64 (raised c)))) (bad 6 0)
control-is s at c e = control-front (drop at s) ∙ rw (first s at, ← e)

-- after the backslash
module _ (s : List ℕ) (at : ℕ) (inside : Bool) where
  pub escape_end : length s ≤ at → escape_of inside (drop at s) ≡ bad 6 0
  unfolding escape_of
  escape_end h = rw (drop_of_length-le s h)

  module _ (here : at < length s) where
    pub escape-literal : is_alnum (get_or s at 0) ≡ false → escape_of inside (drop at s) ≡ good 2 (Byte (get_or s at 0))
    unfolding escape_of
    escape-literal e = rw (front s at here, e)

    pub escape-x : get_or s at 0 ≡ 120 → escape_of inside (drop at s) ≡ hex_of (drop (at + 1) s)
    unfolding escape_of is_alnum is_alpha is_lower is_upper is_digit
    escape-x e = rw (front s at here, e)

    pub escape-o : get_or s at 0 ≡ 111 → escape_of inside (drop at s) ≡ octal_of (drop (at + 1) s)
    unfolding escape_of is_alnum is_alpha is_lower is_upper is_digit
    escape-o e = rw (front s at here, e)

    pub escape-0 : get_or s at 0 ≡ 48 → escape_of inside (drop at s) ≡ short_of 8 (drop (at + 1) s)
    unfolding escape_of is_alnum is_alpha is_lower is_upper is_digit
    escape-0 e = rw (front s at here, e)

    pub escape-c : get_or s at 0 ≡ 99 → escape_of inside (drop at s) ≡ control_of (drop (at + 1) s)
    unfolding escape_of is_alnum is_alpha is_lower is_upper is_digit
    escape-c e = rw (front s at here, e)

    pub escape-other : is_alnum (get_or s at 0) ≡ true
        → (get_or s at 0 ≡ 120 → ⊥) → (get_or s at 0 ≡ 111 → ⊥) → (get_or s at 0 ≡ 48 → ⊥) → (get_or s at 0 ≡ 99 → ⊥)
        → escape_of inside (drop at s) ≡ named_of (get_or s at 0) (type_of (get_or s at 0) (placed_of inside (get_or s at 0)))
    unfolding escape_of
    escape-other a x o z c = rw (front s at here, a, ne_eqb _ _ x, ne_eqb _ _ o, ne_eqb _ _ z, ne_eqb _ _ c)
