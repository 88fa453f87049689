-- `options_of` meets its contract: each flag is one bit.
use mathlib.Core.Path.{◌≡◌}
use mathlib.Core.Bool.{false, not}
use mathlib.Core.Logic.{◌⊎◌, inl, inr}
use Prim.Native.Nat.{ℕ, ◌*◌, ◌/◌, ◌%◌, ◌<◌}
use native.Mathlib.Omega.{arith}
use borrow.Author.Tests.{ne_eqb}
use lib.Dec.{eqb}
use lib.Bits.{bit_and}
use Rattle.std.proofs.lemmas.Nat.{and_mask}
use Rattle.std.proofs.lemmas.Nat.Bits.{and_high}
use Rattle.pattern.specs.Read.{options_of}
use Rattle.pattern.proofs.Base.{by-eq}
use Rattle.pattern.proofs.options_of.Goals as goal

-- a bit b of weight p, and what is left of a number by a mask of that weight
set_bit : (b p v : ℕ) → b < 2 → 0 < p → v ≡ b * p → not (eqb v 0) ≡ eqb b 1
set_bit b p v h k e = go (by-eq b 0)
  where
    go : (b ≡ 0) ⊎ (b ≡ 0 → ⊥) → not (eqb v 0) ≡ eqb b 1
    go (inl z) =
        let f : v ≡ 0 * p = rw z at e in
        let n : v ≡ 0 = omega (arith, f) in
        rw (z, n)
    go (inr z) =
        let o : b ≡ 1 = omega arith in
        let n : v ≡ 0 → ⊥ = λ y. let f : v ≡ 1 * p = rw o at e in omega (arith, f) in
        rw (o, ne_eqb v 0 n)

pub returns : goal.returns
unfolding options_of
returns c =
    let n = c.args.flags in
    let m : bit_and n 1 ≡ n % 2 * 1 = omega (arith, and_mask n 1) in
    let a = set_bit (n % 2) 1 _ (omega arith) (omega arith) m in
    let b = set_bit (n / 2 % 2) 2 _ (omega arith) (omega arith) (and_high n 1 1) in
    let d = set_bit (n / 4 % 2) 4 _ (omega arith) (omega arith) (and_high n 1 2) in
    λ i. record { caseless = a i; dotall = b i; lines = d i; quoted = false }
