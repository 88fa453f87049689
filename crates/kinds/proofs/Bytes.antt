-- What holds of every byte, from one test that is computed over all 256 of them.
use mathlib.Core.Path.{◌≡◌}
use mathlib.Core.Bool.{Bool, true, false, not}
use mathlib.Core.List.{List}
use Prim.Native.Nat.{ℕ, ◌<◌}
use borrow.Author.Tests.{eqb-true, not-false}
use lib.Dec.{eqb}
use lib.ListN.{get_or}
use Rattle.sets.specs.Set.{any}
use Rattle.sets.proofs.Laws.{any_none}
use Rattle.kinds.specs.Kind.{kinds_of}
use Rattle.kinds.specs.Invariants.{Ruled}

-- no byte fails the test
pub every_byte : (f : ℕ → Bool) → any 256 (λ b. not (f b)) ≡ false → (b : ℕ) → b < 256 → f b ≡ true
every_byte f e b l = not-false (f b) (any_none 256 (λ b. not (f b)) e b l)

-- no byte tells two functions apart
pub bytes-agree : (f g : ℕ → ℕ) → any 256 (λ b. not (eqb (f b) (g b))) ≡ false → (b : ℕ) → b < 256 → f b ≡ g b
bytes-agree f g e b l = eqb-true (f b) (g b) (every_byte (λ b. eqb (f b) (g b)) e b l)

-- no entry of the table is wrong
pub ruled : (t : List ℕ) → any 256 (λ b. not (eqb (get_or t b 0) (kinds_of b))) ≡ false → Ruled t
unfolding Ruled
ruled t e = bytes-agree (λ b. get_or t b 0) kinds_of e
