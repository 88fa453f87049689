-- The gaps of a log by number: at each of them the assertions hold that the meaning says. Finite
-- tests, computed.
use mathlib.Core.Path.{◌≡◌, refl, sym, ap, ap₂, ◌∙◌, fun_ext}
use mathlib.Core.Bool.{Bool, true, false, true≢false, cond, ◌&&◌}
use mathlib.Core.List.{List, [], ◌∷◌}
use Prim.Native.Nat.{ℕ, zero, suc, ◌+◌, ◌*◌, ◌-◌, ◌/◌, ◌^◌, ◌≤◌, ◌<◌}
use native.Mathlib.Omega.{arith}
use borrow.Author.Tests.{eqb-true}
use lib.Bits.{bit_and, and_mask}
use lib.Dec.{eqb}
use lib.ListN.{length, get_or, take}
use Rattle.sets.specs.Set.{on}
use Rattle.kinds.specs.Side.{side_of}
use Rattle.kinds.specs.declared.Side.{Side}
use Rattle.kinds.specs.declared.Side.TheVariants.{Other, Word, Newline}
use Rattle.meaning.specs.Gap.{Known, byte, edge, unknown, known_before}
use Rattle.meaning.specs.Rule.{Assertion, world}
use Rattle.meaning.proofs.Finite.{every_side, at_side, agree, agreed}
use Rattle.marks.specs.Parts.{side_code, world_of}
use Rattle.marks.specs.Gaps.{before_gap, inner_world, outer_world}
use Rattle.marks.specs.Invariants.{Shows}

-- one digit of a mask
pub digit-is : (mask g : ℕ) → eqb (bit_and (mask / 2 ^ g) 1) 1 ≡ on mask g
unfolding on
digit-is mask g = ap (λ (w : ℕ). eqb w 1) (and_mask (mask / 2 ^ g) 1)

-- what stands before a gap of a log is its start or a byte
pub data Stood : Known → Type 0 where
  at_edge : Stood edge
  at_byte : (s : Side) → Stood (byte s)

pub before-known : (l : List ℕ) → Stood (known_before l)
unfolding known_before
before-known [] = at_edge
before-known (x ∷ []) = at_byte (side_of x)
before-known (x ∷ y ∷ l) = before-known (y ∷ l)

pub known-last : (l : List ℕ) (k : ℕ) → k < length l → known_before (take (suc k) l) ≡ byte (side_of (get_or l k 0))
unfolding known_before
known-last [] k h = absurd (omega arith)
known-last (x ∷ []) zero h = refl
known-last (x ∷ []) (suc k) h = absurd (omega arith)
known-last (x ∷ y ∷ l) zero h = refl
known-last (x ∷ y ∷ l) (suc k) h = known-last (y ∷ l) k (omega arith)

pub code-low : (k : Known) → side_code k ≤ 3
code-low (byte Newline) = omega arith
code-low (byte Word) = omega arith
code-low (byte Other) = omega arith
code-low edge = omega arith
code-low unknown = omega arith

pub byte-code : (s : Side) → 1 ≤ side_code (byte s)
byte-code Newline = omega arith
byte-code Word = omega arith
byte-code Other = omega arith

-- ---- the worlds, each a computed test

byte-world : (p : Known) → Stood p → (s : Side) (a : Assertion) → world_of (4 * (side_code (byte s) - 1) + side_code p) a ≡ world p (byte s) false a
unfolding on
byte-world p h s = agreed (world_of (4 * (side_code (byte s) - 1) + side_code p)) (world p (byte s) false) (go p h)
  where
    test : Known → Side → Bool
    test p s = agree (world_of (4 * (side_code (byte s) - 1) + side_code p)) (world p (byte s) false)

    go : (p : Known) → Stood p → test p s ≡ true
    go p at_edge = at_side (test edge) refl s
    go p (at_byte r) = at_side (test (byte r)) (at_side (λ r. every_side (test (byte r))) refl r) s

newline-world : (p : Known) → Stood p → (a : Assertion) → world_of (12 + side_code p) a ≡ world p (byte Newline) true a
unfolding on
newline-world p h = agreed (world_of (12 + side_code p)) (world p (byte Newline) true) (go p h)
  where
    test : Known → Bool
    test p = agree (world_of (12 + side_code p)) (world p (byte Newline) true)

    go : (p : Known) → Stood p → test p ≡ true
    go p at_edge = refl
    go p (at_byte r) = at_side (λ r. test (byte r)) refl r

end-world : (s : Side) (a : Assertion) → world_of (16 + side_code (byte s)) a ≡ world (byte s) edge true a
unfolding on
end-world s =
    agreed (world_of (16 + side_code (byte s))) (world (byte s) edge true)
    (at_side (λ s. agree (world_of (16 + side_code (byte s))) (world (byte s) edge true)) refl s)

open-world : (s : Side) (a : Assertion) → world_of (20 + side_code (byte s)) a ≡ world (byte s) unknown false a
unfolding on
open-world s =
    agreed (world_of (20 + side_code (byte s))) (world (byte s) unknown false)
    (at_side (λ s. agree (world_of (20 + side_code (byte s))) (world (byte s) unknown false)) refl s)

-- ---- as the code works them out

module _ (bytes : List ℕ) (k : ℕ) where
  abbrev x : ℕ
  x = get_or bytes k 0

  abbrev p : Known
  p = before_gap bytes k

  side-newline : x ≡ 10 → side_of x ≡ Newline
  unfolding side_of
  side-newline e = ap side_of e

  pub inner-newline : (b : ℕ) (last : Bool) → (last && eqb x 10) ≡ true → b ≡ side_code p → Shows (12 + b) (inner_world bytes last k)
  inner-newline b last h e =
      let ten = last-ten last (eqb x 10) h in record {
        low = omega (arith, code-low p);
        same = ap (λ (c : ℕ). world_of (12 + c)) e ∙ fun_ext (newline-world p (before-known (take k bytes)))
            ∙ ap₂ (λ (s : Side) (z : Bool). world p (byte s) z) (sym (side-newline (eqb-true x 10 ten))) (sym h);
      }
    where
      last-ten : (u v : Bool) → (u && v) ≡ true → v ≡ true
      last-ten true v g = g
      last-ten false v g = absurd (true≢false (sym g))

  pub inner-other : (b c : ℕ) (last : Bool) → (last && eqb x 10) ≡ false → b ≡ side_code p → c ≡ side_code (byte (side_of x)) → Shows (4 * (c - 1) + b) (inner_world bytes last k)
  inner-other b c last h e d = record {
    low = omega (arith, code-low p, code-low (byte (side_of x)));
    same = ap₂ (λ (u v : ℕ). world_of (4 * (v - 1) + u)) e d ∙ fun_ext (byte-world p (before-known (take k bytes)) (side_of x))
        ∙ ap (λ (z : Bool). world p (byte (side_of x)) z) (sym h);
  }

  module _ (inside : k < length bytes) (c : ℕ) (d : c ≡ side_code (byte (side_of x))) where
    pub outer-end : (last : Bool) → last ≡ true → Shows (16 + c) (outer_world bytes last k)
    outer-end last h = record {
      low = omega (arith, code-low (byte (side_of x)));
      same = ap (λ (v : ℕ). world_of (16 + v)) d ∙ fun_ext (end-world (side_of x))
          ∙ ap₂ (λ (q : Known) (z : Bool). world q (cond z edge unknown) z) (sym (known-last bytes k inside)) (sym h);
    }

    pub outer-open : (last : Bool) → last ≡ false → Shows (20 + c) (outer_world bytes last k)
    outer-open last h = record {
      low = omega (arith, code-low (byte (side_of x)));
      same = ap (λ (v : ℕ). world_of (20 + v)) d ∙ fun_ext (open-world (side_of x))
          ∙ ap₂ (λ (q : Known) (z : Bool). world q (cond z edge unknown) z) (sym (known-last bytes k inside)) (sym h);
    }
