-- Quantifiers, as the functions read them: each law says a definition of specs/Quantifier.antt at
-- the bytes from a place on by what the code has in hand there.
use mathlib.Core.Path.{◌≡◌, refl, ap, ap₂, ◌∙◌}
use mathlib.Core.Bool.{true, cond, ◌&&◌, and-eq-true_iff, and-false}
use mathlib.Core.List.{List}
use Prim.Native.Nat.{ℕ, ◌+◌, ◌≤◌}
use native.Mathlib.Omega.{arith}
use borrow.Author.Tests.{eq-eqb, ne_eqb, leb-true}
use lib.Dec.{eqb, leb, ltb}
use lib.ListN.{get_or, drop}
use lib.Seq.{get_or-drop, drop-drop}
use Rattle.atoms.specs.Number.{cap, numeral_of}
use Rattle.tokens.specs.Quantifier.{no_form, form, bounded, open_ended, braces_of, form_of}
use Rattle.atoms.specs.Number.{Numeral}
use Rattle.atoms.specs.declared as declared
use Rattle.atoms.specs.Answer.{numeral}
use Rattle.std.specs.Prelude.{Option}
use Rattle.std.specs.Option.{is_some, unwrap_or}
use Rattle.atoms.proofs.Suffixes.{first}

-- what the test of two bounds says of them
pub bounds-rise : (lo hi : ℕ) → (ltb lo cap && (ltb hi cap && leb lo hi)) ≡ true → lo ≤ hi
bounds-rise lo hi e = leb-true lo hi ((and-eq-true_iff (ltb hi cap) (leb lo hi)).0 ((and-eq-true_iff (ltb lo cap) _).0 e).1).1

-- the number a after the brace, and the byte c after its digits
module _ (s : List ℕ) (at : ℕ) (a : Numeral) (c : ℕ) (ea : a ≡ numeral_of 10 (drop at s)) (ec : c ≡ get_or s (at + a.size) 0) where
  pub braces-one : c ≡ 125 → braces_of (drop at s) ≡ cond a.some (bounded (2 + a.size) a.value a.value) no_form
  unfolding braces_of
  braces-one h = rw (← ea, get_or-drop at s a.size 0, ← ec, h)

  -- the number b after a comma, and the byte d after its digits
  pub braces-two : (b : Numeral) (d : ℕ) → b ≡ numeral_of 10 (drop (at + a.size + 1) s) → d ≡ get_or s (at + a.size + (1 + b.size)) 0 → (c ≡ 125 → ⊥)
      → braces_of (drop at s)
      ≡ cond (eqb c 44 && eqb d 125)
      (cond b.some (bounded (3 + (a.size + b.size)) a.value b.value)
      (cond a.some (open_ended (3 + (a.size + b.size)) a.value) no_form))
      no_form
  unfolding braces_of
  braces-two b d eb ed h =
      let further : at + (a.size + 1) ≡ at + a.size + 1 = omega arith in
      let end : at + (a.size + (1 + b.size)) ≡ at + a.size + (1 + b.size) = omega arith in
      rw (
        ← ea,
        get_or-drop at s a.size 0,
        ← ec,
        ne_eqb _ _ h,
        drop-drop (a.size + 1) at s,
        further,
        ← eb,
        get_or-drop at s (a.size + (1 + b.size)) 0,
        end,
        ← ed,
      )

-- the same of the code's numbers, by their values
module _ (s : List ℕ) (at : ℕ) (n : declared.Numeral.Numeral) (c : ℕ) (en : numeral n ≡ numeral_of 10 (drop at s)) (ec : c ≡ get_or s (at + n.size) 0) where
  pub braces-closed : (o : Option ℕ) → n.value ≡ o → c ≡ 125
      → braces_of (drop at s) ≡ cond (is_some o) (bounded (2 + n.size) (unwrap_or o 0) (unwrap_or o 0)) no_form
  braces-closed o e h =
      braces-one s at (numeral n) c en ec h
      ∙ ap (λ (o : Option ℕ). cond (is_some o) (bounded (2 + n.size) (unwrap_or o 0) (unwrap_or o 0)) no_form) e

  pub braces-other : (c ≡ 125 → ⊥) → (c ≡ 44 → ⊥) → braces_of (drop at s) ≡ no_form
  braces-other h k =
      let b : Numeral = numeral_of 10 (drop (at + n.size + 1) s) in
      braces-two s at (numeral n) c en ec b (get_or s (at + n.size + (1 + b.size)) 0) refl refl h ∙ rw (ne_eqb c 44 k) refl

  module _ (m : declared.Numeral.Numeral) (d : ℕ) (em : numeral m ≡ numeral_of 10 (drop (at + n.size + 1) s)) (ed : d ≡ get_or s (at + n.size + (1 + m.size)) 0)
      (comma : c ≡ 44) where
    by-bytes : braces_of (drop at s)
        ≡ cond (eqb c 44 && eqb d 125)
        (cond (is_some m.value) (bounded (3 + (n.size + m.size)) (unwrap_or n.value 0) (unwrap_or m.value 0))
        (cond (is_some n.value) (open_ended (3 + (n.size + m.size)) (unwrap_or n.value 0)) no_form))
        no_form
    by-bytes = braces-two s at (numeral n) c en ec (numeral m) d em ed (λ e. omega arith)

    pub braces-unclosed : (d ≡ 125 → ⊥) → braces_of (drop at s) ≡ no_form
    braces-unclosed h = by-bytes ∙ rw (ne_eqb d 125 h, and-false (eqb c 44)) refl

    pub braces-pair : (p q : Option ℕ) → n.value ≡ p → m.value ≡ q → d ≡ 125
        → braces_of (drop at s)
        ≡ cond (is_some q) (bounded (3 + (n.size + m.size)) (unwrap_or p 0) (unwrap_or q 0))
        (cond (is_some p) (open_ended (3 + (n.size + m.size)) (unwrap_or p 0)) no_form)
    braces-pair p q ep eq h =
        by-bytes
        ∙ rw (eq-eqb c 44 comma, eq-eqb d 125 h)
        (ap₂ (λ (p q : Option ℕ).
        cond (is_some q) (bounded (3 + (n.size + m.size)) (unwrap_or p 0) (unwrap_or q 0))
        (cond (is_some p) (open_ended (3 + (n.size + m.size)) (unwrap_or p 0)) no_form)) ep eq)

-- the byte c at the place
pub form-is : (s : List ℕ) (at c : ℕ) → c ≡ get_or s at 0
    → form_of (drop at s)
    ≡ cond (eqb c 63) (form 1 0 1)
    (cond (eqb c 42) (form 1 0 cap) (cond (eqb c 43) (form 1 1 cap) (cond (eqb c 123) (braces_of (drop (at + 1) s)) no_form)))
unfolding form_of
form-is s at c e = rw (first s at, ← e, drop-drop 1 at s)
