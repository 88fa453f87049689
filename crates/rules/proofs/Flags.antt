-- A flag is given where its binary digit is 1.
use Rattle.std.proofs.Common.{◌≡◌, ℕ, zero, suc, ◌*◌, ◌/◌, ◌%◌, ◌<◌, not, eqb, refl, ap, ◌∙◌, arith}
use Rattle.std.specs.Int.Bits.{bit_and}
use Rattle.std.proofs.lemmas.Nat.Bits.{and_pow}
use Rattle.rules.specs.Words.{is_single, is_leftmost}

digit-8 : (b : ℕ) → b < 2 → not (eqb (b * 8) 0) ≡ eqb b 1
digit-8 zero h = refl
digit-8 (suc zero) h = refl
digit-8 (suc (suc b)) h = absurd (omega arith)

digit-256 : (b : ℕ) → b < 2 → not (eqb (b * 256) 0) ≡ eqb b 1
digit-256 zero h = refl
digit-256 (suc zero) h = refl
digit-256 (suc (suc b)) h = absurd (omega arith)

pub single-flag : (flags : ℕ) → not (eqb (bit_and flags 8) 0) ≡ is_single flags
single-flag flags = ap (λ (x : ℕ). not (eqb x 0)) (and_pow flags 3) ∙ digit-8 (flags / 8 % 2) (omega arith)

pub leftmost-flag : (flags : ℕ) → not (eqb (bit_and flags 256) 0) ≡ is_leftmost flags
leftmost-flag flags = ap (λ (x : ℕ). not (eqb x 0)) (and_pow flags 8) ∙ digit-256 (flags / 256 % 2) (omega arith)
