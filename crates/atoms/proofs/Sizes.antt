-- How many bytes an escape takes: never more than there are, so that no place runs past the
-- pattern's end, and at least one unless it is faulty, so that whoever goes on after it comes
-- nearer to the end. By cases on what the definitions ask.
use mathlib.Core.Path.{◌≡◌, refl, sym}
use mathlib.Core.Bool.{Bool, true, false, cond, ◌&&◌, and-eq-true_iff, true≢false}
use mathlib.Core.List.{List, [], ◌∷◌}
use Prim.Native.Nat.{ℕ, suc, ◌+◌, ◌≤◌, ◌<◌}
use native.Mathlib.Omega.{arith}
use borrow.Author.Tests.{eqb-true}
use lib.Dec.{eqb, leb}
use lib.ListN.{length, get_or, take, drop, length-take}
use Rattle.kinds.specs.Kind.{within, is_alnum}
use Rattle.atoms.specs.Number.{digits, numeral_of}
use Rattle.atoms.specs.Escape.{good, bad, braced_of, short_of, control_of, type_of, named_of, placed_of, hex_of, octal_of, escape_of}
use Rattle.atoms.specs.Quote.{is_mark}
use Rattle.atoms.specs.declared.Atom.{Atom}
use Rattle.atoms.specs.Escape.{Part}
use Rattle.atoms.proofs.Suffixes.{inside}
use Rattle.atoms.proofs.Digits.{digits-fit}

-- what holds of both arms of a test, each by what the test says there, holds of the one that it
-- picks
pub either : {A : Type 0} (P : A → Type 0) (t : Bool) {a b : A} → (t ≡ true → P a) → (t ≡ false → P b) → P (cond t a b)
either P true f g = f refl
either P false f g = g refl

pub pick : {A : Type 0} (P : A → Type 0) (t : Bool) {a b : A} → (t ≡ true → P a) → P b → P (cond t a b)
pick P t f g = either P t f (λ e. g)

-- a byte other than 0 stands within the list
pub byte-within : (v : List ℕ) (i k : ℕ) → eqb (get_or v i 0) (suc k) ≡ true → i < length v
byte-within v i k e = inside v i (λ z. omega (arith, eqb-true (get_or v i 0) (suc k) e))

-- a mark's second byte is not 0
pub mark-within : (quoted : Bool) (c : ℕ) (v : List ℕ) → is_mark quoted c (get_or v 0 0) ≡ true → 0 < length v
unfolding is_mark
mark-within quoted c [] e = absurd (true≢false (sym ((and-eq-true_iff (eqb c 92) false).0 e).1))
mark-within quoted c (d ∷ v) e = omega arith

-- ---- escapes

-- an escape, or a member of a class, that stands within n bytes
pub record Stands (n : ℕ) (p : Part) : Type 0 where
  pub fits : p.size ≤ n
  pub takes : p.fault ≡ 0 → 1 ≤ p.size

pub sound : (n k : ℕ) (a : Atom) → 1 ≤ k → k ≤ n → Stands n (good k a)
sound n k a l h = record { fits = h; takes = λ e. l }

pub unsound : (n f k : ℕ) → k ≤ n → Stands n (bad (suc f) k)
unsound n f k h = record { fits = h; takes = λ e. absurd (omega arith) }

-- escapes of a letter alone
module _ (n : ℕ) (h : 2 ≤ n) where
  letter : (t : Bool) (a : Atom) {p : Part} → Stands n p → Stands n (cond t (good 2 a) p)
  letter t a s = pick (Stands n) t (λ e. sound n 2 a (omega arith) h) s

  type-stands : (c : ℕ) (p : Part) → Stands n p → Stands n (type_of c p)
  unfolding type_of
  type-stands c p s =
      letter (eqb c 100) _
      (letter (eqb c 119) _
      (letter (eqb c 115) _
      (letter (eqb c 104) _
      (letter (eqb c 118) _
      (letter (eqb c 68) _ (letter (eqb c 87) _ (letter (eqb c 83) _ (letter (eqb c 72) _ (letter (eqb c 86) _ s)))))))))

  named-stands : (c : ℕ) (p : Part) → Stands n p → Stands n (named_of c p)
  unfolding named_of
  named-stands c p s =
      letter (eqb c 97) _
      (letter (eqb c 101) _ (letter (eqb c 102) _ (letter (eqb c 110) _ (letter (eqb c 114) _ (letter (eqb c 116) _ s)))))

  placed-stands : (inside : Bool) (c : ℕ) → Stands n (placed_of inside c)
  unfolding placed_of
  placed-stands true c = letter (eqb c 98) _ (unsound n 13 2 h)
  placed-stands false c =
      letter (eqb c 78) _
      (letter (eqb c 65) _ (letter (eqb c 90) _ (letter (eqb c 122) _ (letter (eqb c 98) _ (letter (eqb c 66) _ (unsound n 13 2 h))))))

-- escapes that take more bytes; v is what is left after two bytes
module _ (v : List ℕ) where
  braced-stands : (base : ℕ) → Stands (2 + length v) (braced_of base v)
  unfolding braced_of
  braced-stands base =
      let n = numeral_of base (drop 1 v) in
      let all = 2 + length v in
      pick (Stands all) (n.some && eqb (get_or v (1 + n.size) 0) 125)
      (λ e.
      let closed : 1 + n.size < length v = byte-within v (1 + n.size) 124 ((and-eq-true_iff n.some (eqb (get_or v (1 + n.size) 0) 125)).0 e).1 in
      pick (Stands all) (leb n.value 255) (λ e. sound all (4 + n.size) _ (omega arith) (omega arith)) (unsound all 6 (4 + n.size) (omega arith)))
      (unsound all 5 0 (omega arith))

  short-stands : (base : ℕ) → Stands (2 + length v) (short_of base v)
  unfolding short_of
  short-stands base =
      let ds = digits base v in
      sound (2 + length v) (2 + length (take 2 ds)) _ (omega arith) (omega (arith, length-take 2 ds, digits-fit base v))

  hex-stands : Stands (2 + length v) (hex_of v)
  unfolding hex_of
  hex-stands = pick (Stands (2 + length v)) (eqb (get_or v 0 0) 123) (λ e. braced-stands 16) (short-stands 16)

  octal-stands : Stands (2 + length v) (octal_of v)
  unfolding octal_of
  octal-stands = pick (Stands (2 + length v)) (eqb (get_or v 0 0) 123) (λ e. braced-stands 8) (unsound (2 + length v) 5 0 (omega arith))

control-stands : (v : List ℕ) → Stands (2 + length v) (control_of v)
unfolding control_of
control-stands [] = unsound 2 5 0 (omega arith)
control-stands (c ∷ v) =
    let n = 2 + length (c ∷ v) in
    pick (Stands n) (within 32 126 c) (λ e. sound n 3 _ (omega arith) (omega arith)) (unsound n 5 0 (omega arith))

pub escape-stands : (inside : Bool) (v : List ℕ) → Stands (1 + length v) (escape_of inside v)
unfolding escape_of
escape-stands inside [] = unsound 1 5 0 (omega arith)
escape-stands inside (c ∷ v) =
    let n = 1 + length (c ∷ v) in
    let two : 2 ≤ n = omega arith in
    let more : n ≡ 2 + length v = omega arith in
    pick (Stands n) (is_alnum c)
    (λ e.
    pick (Stands n) (eqb c 120) (λ e. rw more (hex-stands v))
    (pick (Stands n) (eqb c 111) (λ e. rw more (octal-stands v))
    (pick (Stands n) (eqb c 48) (λ e. rw more (short-stands v 8))
    (pick (Stands n) (eqb c 99) (λ e. rw more (control-stands v)) (named-stands n two c _ (type-stands n two c _ (placed-stands n two inside c)))))))
    (sound n 2 _ (omega arith) two)
