-- The reports of a byte are counted only if some rule ends.
use mathlib.Core.Path.{◌≡◌, sym, ap, ap₂, ◌∙◌}
use mathlib.Core.Bool.{Bool, false, not, ◌&&◌}
use Prim.Native.Nat.{ℕ, ◌+◌, zero-le}
use native.Mathlib.Omega.{arith}
use lib.Bits.{bit_or, or_add_and, and_le_l, and_le_r}
use lib.Dec.{ltb}
use borrow.Author.Tests.{le-ltb}
use Rattle.sets.specs.Set.{on, count}
use Rattle.sets.proofs.Bits.{on-zero}
use Rattle.sets.proofs.Laws.{count-never}

none-counted : (word : ℕ) (marks : ℕ) → word ≡ 0 → count 64 (λ a. on word a && not (on marks a)) ≡ 0
none-counted word marks e =
    count-never 64 (λ a. on word a && not (on marks a)) (λ a l. ap (λ (b : Bool). b && not (on marks a)) (ap (λ (m : ℕ). on m a) e ∙ on-zero a))

pub none-due : (late own reported marks space : ℕ) → bit_or late own ≡ 0
    → false ≡ ltb space (count 64 (λ a. on late a && not (on reported a)) + count 64 (λ a. on own a && not (on marks a)))
none-due late own reported marks space e =
    sym (ap (λ (n : ℕ). ltb space n) (ap₂ (λ (x y : ℕ). x + y) (none-counted late reported zero-late) (none-counted own marks zero-own)) ∙ le-ltb space 0 zero-le)
  where
    zero-late : late ≡ 0
    zero-late = omega (arith, or_add_and late own, and_le_l late own, and_le_r late own)

    zero-own : own ≡ 0
    zero-own = omega (arith, or_add_and late own, and_le_l late own, and_le_r late own)
