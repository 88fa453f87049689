-- `kinds::side_of` meets its contract: the digit of the byte tells whether it is a word byte.
use mathlib.Core.Path.{◌≡◌, sym, ap, ◌∙◌}
use mathlib.Core.Bool.{true, false}
use Prim.Native.Nat.{ℕ, ◌/◌, ◌%◌, ◌^◌}
use lib.Bits.{bit_and, and_mask}
use lib.Dec.{eqb}
use borrow.Author.Tests.{eq-eqb, ne_eqb}
use Rattle.sets.specs.Set.{on}
use Rattle.kinds.specs.Invariants.{word_digits}
use Rattle.kinds.proofs.Sides.{newline, by-digit}
use Rattle.kinds.proofs.side_of.Goals as goal

-- the code's test is that of the digit
asked : (b w : ℕ) → w ≡ word_digits b → eqb (bit_and (w / 2 ^ (b % 64)) 1) 1 ≡ on (word_digits b) (b % 64)
unfolding on
asked b w e = ap (λ (x : ℕ). eqb x 1) (and_mask (w / 2 ^ (b % 64)) 1) ∙ ap (λ (x : ℕ). eqb (x / 2 ^ (b % 64) % 2) 1) e

pub returns-then-b-eq10 : goal.returns-then-b-eq10
returns-then-b-eq10 c = sym (newline _ c.if-b-eq10.true)

pub returns-then-word_digits-b-eq1 : goal.returns-then-word_digits-b-eq1
returns-then-word_digits-b-eq1 c =
    let found = c.word_digits in
    let b = c.args.b in
    sym (by-digit b c.if-b-eq10.false true (sym (asked b found.result found.ensures) ∙ eq-eqb _ 1 c.if-word_digits-b-eq1.true))

pub returns-else-word_digits-b-eq1 : goal.returns-else-word_digits-b-eq1
returns-else-word_digits-b-eq1 c =
    let found = c.word_digits in
    let b = c.args.b in
    sym (by-digit b c.if-b-eq10.false false (sym (asked b found.result found.ensures) ∙ ne_eqb _ 1 c.if-word_digits-b-eq1.false))
