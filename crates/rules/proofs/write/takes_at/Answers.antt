-- `rules::write::takes_at` meets its contract: it reads one digit of the set's word.
use mathlib.Core.Path.{ap}
use Prim.Native.Nat.{ℕ, ◌+◌, ◌/◌, ◌%◌, ◌^◌}
use native.Mathlib.Omega.{arith}
use lib.Bits.{and_mask}
use lib.Dec.{eqb}
use lib.ListN.{get_or}
use borrow.Author.Tests.{lt-ltb}
use Rattle.sets.specs.Set.{on}
use Rattle.table.specs.Layout.{row_has}
use Rattle.rules.proofs.write.takes_at.Goals as goal

pub returns : goal.returns
unfolding row_has on
returns c =
    let a = c.args in
    rw (lt-ltb a.x 256 (omega arith)) (ap (λ (v : ℕ). eqb v 1) (and_mask (get_or a.takes.now (a.at + a.x / 64) 0 / 2 ^ (a.x % 64)) 1))
