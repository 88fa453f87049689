-- A number of a rule line is a field where it has four properties, each of which the code tests;
-- the capped number and the end of the digits show them. A field's space is a byte of the line, so
-- that what is after it lies within the line.
use mathlib.Core.Path.{◌≡◌, refl, sym, ap, ◌∙◌}
use mathlib.Core.Bool.{Bool, true, false, cond, and-eq-true_iff}
use mathlib.Core.List.{List}
use Prim.Native.Nat.{ℕ, ◌+◌, ◌-◌, ◌^◌, ◌≤◌, ◌<◌, min}
use native.Mathlib.Nat.{zero-add}
use native.Mathlib.Omega.{arith}
use native.Mathlib.Decide.{dec_lt}
use borrow.Author.Tests.{leb-true, ltb-true, eqb-true, le-leb, lt-ltb, eq-eqb}
use lib.Dec.{leb, ltb}
use lib.ListN.{length, get_or, drop, get_or-eq_default, length-drop}
use lib.Seq.{get_or-drop}
use Rattle.std.specs.Prelude.{Option, None, Some}
use Rattle.lines.specs.declared.Field.{Field}
use Rattle.lines.specs.Invariants.{Found}
use Rattle.lines.specs.Lines.{digits_of, value_from, is_field, field_value, field_size, malformed, rule_line_of}

-- the four properties, as facts
pub record Good (v : List ℕ) : Type 0 where
  pub some : 1 ≤ length (digits_of v)
  pub few : length (digits_of v) ≤ 10
  pub small : field_value v < 2 ^ 32
  pub space : get_or v (length (digits_of v)) 0 ≡ 32

pub good-field : (v : List ℕ) → is_field v ≡ true → Good v
unfolding is_field field_value
good-field v e =
    let n = length (digits_of v) in
    let p = (and-eq-true_iff (leb 1 n) _).0 e in
    let q = (and-eq-true_iff (leb n 10) _).0 p.1 in
    let t = (and-eq-true_iff (ltb (value_from 0 (digits_of v)) (2 ^ 32)) _).0 q.1 in
    record {
      some = leb-true 1 n p.0;
      few = leb-true n 10 q.0;
      small = ltb-true (value_from 0 (digits_of v)) (2 ^ 32) t.0;
      space = eqb-true (get_or v n 0) 32 t.1;
    }

pub field-good : (v : List ℕ) → Good v → is_field v ≡ true
unfolding is_field field_value
field-good v g = rw (le-leb _ _ g.some, le-leb _ _ g.few, lt-ltb _ _ g.small, eq-eqb _ _ g.space)

pub field-bad : (v : List ℕ) → (Good v → ⊥) → is_field v ≡ false
field-bad v b = go (is_field v) refl
  where
    go : (t : Bool) → is_field v ≡ t → t ≡ false
    go true e = absurd (b (good-field v e))
    go false e = refl

-- past the end stands no space
pub field-within : (v : List ℕ) → Good v → field_size v ≤ length v
unfolding field_size
field-within v g =
    elim (dec_lt (length (digits_of v)) (length v)) [
      | yes l ↦ omega arith
      | no l ↦ absurd (omega (arith, g.space, get_or-eq_default v 0 {n = length (digits_of v)} (omega arith)))
    ]

-- what the digits at a place give: the capped number and where they end
abbrev pub Read : (s : List ℕ) (from value end : ℕ) → Type 0
Read s from value end = (value ≡ min (2 ^ 32) (field_value (drop from s))) × (end ≡ from + length (digits_of (drop from s)))

module _ (s : List ℕ) (from value end : ℕ) (r : Read s from value end) where
  pub space-at : get_or s end 0 ≡ get_or (drop from s) (length (digits_of (drop from s))) 0
  space-at = rw r.1 (sym (get_or-drop from s _ 0))

  -- the code's tests
  pub accepted : 1 ≤ end - from → end - from ≤ 10 → value < 2 ^ 32 → get_or s end 0 ≡ 32 → Good (drop from s)
  accepted some few small space = record { some = omega arith; few = omega arith; small = omega arith; space = sym space-at ∙ space }

  pub next_of : end + 1 ≡ from + field_size (drop from s)
  unfolding field_size
  next_of = omega arith

  module _ (g : Good (drop from s)) where
    pub value_of : value ≡ field_value (drop from s)
    value_of = omega (arith, g.small)

    pub space-within : end < length s
    space-within = omega (arith, field-within (drop from s) g, next_of, length-drop from s)

-- a rule line, by its two fields
module _ (v : List ℕ) where
  pub no-id : Found v 0 None → malformed ≡ rule_line_of v
  unfolding rule_line_of
  no-id e = rw e

  module _ (f : Field) (first : Found v 0 (Some f)) where
    rest : f.next ≡ field_size v
    rest = first.1.1 ∙ zero-add (field_size v)

    pub no-flags : Found v f.next None → malformed ≡ rule_line_of v
    unfolding rule_line_of
    no-flags k = rw (first.0, ← rest, k)

    pub both : (g : Field) → Found v f.next (Some g) → record { good = true; id = f.value; flags = g.value; pattern = g.next } ≡ rule_line_of v
    unfolding rule_line_of
    both g second = rw (first.0, ← rest, second.0, first.1.0, second.1.0, second.1.1)
