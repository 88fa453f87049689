-- The side of a byte, by the digit of the word bytes: the words of digits are computed from the
-- rule, and their digit at a byte is what the rule says of it.
use mathlib.Core.Path.{◌≡◌, refl, sym, ap, ◌∙◌}
use mathlib.Core.Bool.{Bool, true, cond}
use Prim.Native.Nat.{ℕ, ◌+◌, ◌*◌, ◌/◌, ◌%◌, ◌<◌, ◌≤◌}
use native.Mathlib.Decide.{dec_lt}
use native.Mathlib.Omega.{arith}
use borrow.Author.Tests.{eq-eqb, ne_eqb, eqb-true}
use lib.Dec.{eqb}
use Rattle.sets.specs.Set.{on, word_of}
use Rattle.sets.proofs.Bits.{on-word_of}
use Rattle.kinds.specs.Kind.{is_word, is_lower, is_upper, is_digit}
use Rattle.kinds.specs.Side.{side_of, side_in, side_word}
use Rattle.kinds.specs.Invariants.{word_digits}
use Rattle.kinds.specs.declared.Side.{Side}
use Rattle.kinds.specs.declared.Side.TheVariants.{Other, Word, Newline}

-- the digits of one of the four parts of 64 bytes
abbrev digits : ℕ → ℕ
digits part = word_of 64 (λ k. is_word (part * 64 + k))

part-is : (b part : ℕ) → b / 64 ≡ part → word_digits b ≡ digits part
unfolding word_digits
part-is b part e = ap digits e

pub low : (b : ℕ) → b < 64 → word_digits b ≡ 0x03ff_0000_0000_0000
unfolding word_of is_word is_lower is_upper is_digit
low b h = let e : b / 64 ≡ 0 = omega arith in part-is b 0 e

pub high : (b : ℕ) → 64 ≤ b → b < 128 → word_digits b ≡ 0x07ff_fffe_87ff_fffe
unfolding word_of is_word is_lower is_upper is_digit
high b l h = let e : b / 64 ≡ 1 = omega arith in part-is b 1 e

pub above : (b : ℕ) → 128 ≤ b → b < 256 → word_digits b ≡ 0
unfolding word_of is_word is_lower is_upper is_digit
above b l h = go (dec_lt b 192)
  where
    go : Dec (b < 192) → word_digits b ≡ 0
    go (yes m) = let e : b / 64 ≡ 2 = omega arith in part-is b 2 e
    go (no m) = let e : b / 64 ≡ 3 = omega arith in part-is b 3 e

-- the digit of a byte
digit-is : (b : ℕ) → on (word_digits b) (b % 64) ≡ is_word b
unfolding word_digits
digit-is b =
    let whole : b / 64 * 64 + b % 64 ≡ b = omega arith in
    on-word_of 64 (λ k. is_word (b / 64 * 64 + k)) (b % 64) (omega arith) ∙ ap is_word whole

-- each answer, by the tests that lead to it
module _ (b : ℕ) where
  pub newline : b ≡ 10 → side_of b ≡ Newline
  unfolding side_of
  newline e = rw (eq-eqb b 10 e)

  pub by-digit : (b ≡ 10 → ⊥) → (t : Bool) → on (word_digits b) (b % 64) ≡ t → side_of b ≡ cond t Word Other
  unfolding side_of
  by-digit n t e =
      ap (λ (x : Bool). cond x Newline (cond (is_word b) Word Other)) (ne_eqb b 10 n)
      ∙ ap (λ (x : Bool). cond x Word Other) (sym (digit-is b) ∙ e)

-- a side, written as its word and read back; and words of sides are small, and different
pub side-read : (a : Side) → side_in (side_word a) ≡ a
unfolding side_in side_word
side-read Other = refl
side-read Word = refl
side-read Newline = refl

pub side-small : (a : Side) → side_word a ≤ 2
unfolding side_word
side-small Other = omega arith
side-small Word = omega arith
side-small Newline = omega arith

pub side_same : (a b : Side) → eqb (side_word a) (side_word b) ≡ true → a ≡ b
side_same a b e = sym (side-read a) ∙ ap side_in (eqb-true (side_word a) (side_word b) e) ∙ side-read b
