-- `rules::write::digit_at` meets its contract: each return is one case, and a digit is read by a
-- shift.
use mathlib.Core.Path.{ap}
use Prim.Native.Nat.{ℕ, ◌-◌, ◌/◌, ◌^◌}
use lib.Bits.{and_mask}
use lib.Dec.{eqb}
use borrow.Author.Tests.{lt-ltb, le-ltb, eq-eqb, ne_eqb}
use Rattle.sets.specs.Set.{on}
use Rattle.rules.proofs.write.digit_at.Goals as goal

pub returns-then-a-k : goal.returns-then-a-k
unfolding on
returns-then-a-k c =
    let a = c.args in
    rw (lt-ltb a.a a.k c.if-a-k.true) (ap (λ (x : ℕ). eqb x 1) (and_mask (a.old / 2 ^ a.a) 1))

pub returns-then-a-k-2 : goal.returns-then-a-k-2
returns-then-a-k-2 c =
    let a = c.args in
    rw (le-ltb a.a a.k c.if-a-k.false, eq-eqb a.a a.k c.if-a-k-2.true)

pub returns-else-a-k-2 : goal.returns-else-a-k-2
unfolding on
returns-else-a-k-2 c =
    let a = c.args in
    rw (le-ltb a.a a.k c.if-a-k.false, ne_eqb a.a a.k c.if-a-k-2.false) (ap (λ (x : ℕ). eqb x 1) (and_mask (a.old / 2 ^ (a.a - 1)) 1))
