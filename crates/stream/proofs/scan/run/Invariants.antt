-- `stream::scan::run` meets its contract: each turn passes over the bytes that change nothing and
-- offers one more.
use Prim.Native.Nat.{◌-◌}
use lib.ListN.{length}
use Rattle.table.specs.Automaton.{automaton}
use Rattle.stream.specs.Calls.{lists}
use Rattle.stream.specs.Invariants.{Running}
use Rattle.stream.proofs.scan.run.Given as goal

abbrev pub invariant-bytes : goal.invariant-bytes
invariant-bytes l = Running (automaton l.words) l.s l.allowance l.block (lists l.initial.ids l.initial.offsets) l.z (lists l.ids l.offsets)

abbrev pub decreases-bytes : goal.decreases-bytes
decreases-bytes l = length l.block - l.z.at
