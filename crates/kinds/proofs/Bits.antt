-- An entry of the table has bit i where its byte is of kind number i. By going down the list of
-- kinds: `& 1` asks for the lowest bit, and `& 2 ^ (i + 1)` asks of a number what `& 2 ^ i` asks of
-- its half.
use mathlib.Core.Path.{◌≡◌, refl, sym, ap, ap₂, ◌∙◌}
use mathlib.Core.Bool.{Bool, true, false, not}
use mathlib.Core.List.{List, [], ◌∷◌}
use Prim.Native.Nat.{ℕ, zero, suc, ◌+◌, ◌*◌, ◌/◌, ◌%◌, ◌^◌, min}
use native.Mathlib.Nat.{pow-suc, min-zero, add-zero}
use native.Mathlib.Omega.{arith}
use borrow.Author.Tests.{eq-eqb, ne_eqb}
use lib.Dec.{eqb}
use lib.Bits.{bit_and, and_zero_l, and_step, and_mask}
use Rattle.sets.specs.Set.{as_one}
use Rattle.kinds.specs.Kind.{is_kind, kinds, bits_of, kinds_of}
use Rattle.kinds.specs.Invariants.{bit_of}
use Rattle.kinds.specs.declared.Kind.{Kind}
use Rattle.kinds.specs.declared.Kind.TheVariants.{Digit, Word, Space, Horizontal, Vertical, Alpha, Lower, Upper, Alnum, Ascii, Blank, Cntrl, Graph, Print, Punct, Xdigit}

-- predicate number i of a list; past the end, one that holds of nothing
abbrev pub predicate : List (ℕ → Bool) → ℕ → ℕ → Bool
predicate [] i b = false
predicate (p ∷ ps) zero b = p b
predicate (p ∷ ps) (suc i) b = predicate ps i b

-- the code's test, `m & mask != 0`
abbrev pub meets : ℕ → ℕ → Bool
meets m mask = not (eqb (bit_and m mask) 0)

pub meets-true : (m mask : ℕ) → (bit_and m mask ≡ 0 → ⊥) → meets m mask ≡ true
meets-true m mask h = ap not (ne_eqb (bit_and m mask) 0 h)

pub meets-false : (m mask : ℕ) → bit_and m mask ≡ 0 → meets m mask ≡ false
meets-false m mask h = ap not (eq-eqb (bit_and m mask) 0 h)

-- ---- one bit of a number, by its lowest bit and its half

lowest : (t : Bool) (m : ℕ) → meets (as_one t + m * 2) 1 ≡ t
lowest true m = let e : (1 + m * 2) % 2 ≡ 1 = omega arith in ap (λ (x : ℕ). not (eqb x 0)) (and_mask (1 + m * 2) 1 ∙ e)
lowest false m = let e : (0 + m * 2) % 2 ≡ 0 = omega arith in ap (λ (x : ℕ). not (eqb x 0)) (and_mask (0 + m * 2) 1 ∙ e)

halved : (t : Bool) (m : ℕ) → (as_one t + m * 2) / 2 ≡ m
halved true m = omega arith
halved false m = omega arith

doubled : (x : ℕ) → eqb (x * 2) 0 ≡ eqb x 0
doubled zero = refl
doubled (suc x) = ne_eqb (suc x * 2) 0 (λ e. omega arith) ∙ sym (ne_eqb (suc x) 0 (λ e. omega arith))

higher : (t : Bool) (m i : ℕ) → meets (as_one t + m * 2) (2 ^ suc i) ≡ meets m (2 ^ i)
higher t m i =
    let n = as_one t + m * 2 in
    let half : 2 ^ suc i / 2 ≡ 2 ^ i = omega (arith, pow-suc 2 i) in
    let even : 2 ^ suc i % 2 ≡ 0 = omega (arith, pow-suc 2 i) in
    let twice : bit_and n (2 ^ suc i) ≡ bit_and m (2 ^ i) * 2 =
    and_step n (2 ^ suc i)
    ∙ ap₂ (λ (x y : ℕ). x * 2 + y) (ap₂ bit_and (halved t m) half) (ap (min (n % 2)) even ∙ min-zero (n % 2))
    ∙ add-zero (bit_and m (2 ^ i) * 2) in
    ap (λ (x : ℕ). not (eqb x 0)) twice ∙ ap not (doubled (bit_and m (2 ^ i)))

meets-bits : (ps : List (ℕ → Bool)) (b i : ℕ) → meets (bits_of ps b) (2 ^ i) ≡ predicate ps i b
unfolding bits_of
meets-bits [] b i = meets-false 0 (2 ^ i) (and_zero_l (2 ^ i))
meets-bits (p ∷ ps) b zero = lowest (p b) (bits_of ps b)
meets-bits (p ∷ ps) b (suc i) = higher (p b) (bits_of ps b) i ∙ meets-bits ps b i

-- ---- the bits of a byte's kinds

pub meets-kinds : (b i : ℕ) → meets (kinds_of b) (2 ^ i) ≡ predicate kinds i b
unfolding kinds_of
meets-kinds b i = meets-bits kinds b i

pub meets-kind : (k : Kind) (b : ℕ) → meets (kinds_of b) (bit_of k) ≡ is_kind k b
meets-kind Digit b = meets-kinds b 0
meets-kind Word b = meets-kinds b 1
meets-kind Space b = meets-kinds b 2
meets-kind Horizontal b = meets-kinds b 3
meets-kind Vertical b = meets-kinds b 4
meets-kind Alpha b = meets-kinds b 7
meets-kind Lower b = meets-kinds b 5
meets-kind Upper b = meets-kinds b 6
meets-kind Alnum b = meets-kinds b 8
meets-kind Ascii b = meets-kinds b 9
meets-kind Blank b = meets-kinds b 10
meets-kind Cntrl b = meets-kinds b 11
meets-kind Graph b = meets-kinds b 12
meets-kind Print b = meets-kinds b 13
meets-kind Punct b = meets-kinds b 14
meets-kind Xdigit b = meets-kinds b 15

-- what the test tells of a byte whose kinds are m
module _ (m b i : ℕ) (e : m ≡ kinds_of b) where
  pub marked : (bit_and m (2 ^ i) ≡ 0 → ⊥) → predicate kinds i b ≡ true
  marked h = sym (ap (λ (x : ℕ). meets x (2 ^ i)) e ∙ meets-kinds b i) ∙ meets-true m (2 ^ i) h

  pub unmarked : bit_and m (2 ^ i) ≡ 0 → predicate kinds i b ≡ false
  unmarked h = sym (ap (λ (x : ℕ). meets x (2 ^ i)) e ∙ meets-kinds b i) ∙ meets-false m (2 ^ i) h
