-- `steps::rows::with_owner` meets its contract: a digit is set where the place is below the number
-- of rules.
use mathlib.Core.Path.{ap}
use native.Mathlib.Omega.{arith}
use lib.Bits.{bit_or}
use borrow.Author.Tests.{lt-ltb, le-ltb}
use Rattle.sets.proofs.Bits.{shl_one}
use Rattle.steps.specs.Invariants.{with_owner}
use Rattle.steps.proofs.rows.with_owner.Goals as goal

pub returns-then-a-rules : goal.returns-then-a-rules
unfolding with_owner
returns-then-a-rules c =
    let a = c.args in
    rw (lt-ltb a.a a.rules c.if-a-rules.true) (ap (bit_or a.found) (shl_one a.a (omega arith)))

pub returns : goal.returns
unfolding with_owner
returns c =
    let a = c.args in
    rw (le-ltb a.a a.rules c.if-a-rules.false)
