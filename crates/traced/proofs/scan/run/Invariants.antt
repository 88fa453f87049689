-- `traced::scan::run` meets its contract: each turn passes over the bytes that change nothing and
-- offers one more.
use mathlib.Core.Path.{◌≡◌}
use Prim.Native.Nat.{◌-◌}
use lib.ListN.{length}
use Rattle.table.specs.Layout.{max_positions}
use Rattle.table.specs.Automaton.{automaton}
use Rattle.traced.specs.Calls.{lists}
use Rattle.traced.specs.Invariants.{zeros, state_by, Running}
use Rattle.traced.proofs.scan.run.Given as goal

abbrev pub invariant-bytes : goal.invariant-bytes
invariant-bytes l =
    Running (automaton l.words) (state_by l.initial.y.stream l.initial.kept) l.allowance l.block (lists l.initial.ids l.initial.offsets l.initial.starts l.initial.relatives) l.y l.kept
    (lists l.ids l.offsets l.starts l.relatives)
    × (l.spare ≡ zeros max_positions)

abbrev pub decreases-bytes : goal.decreases-bytes
decreases-bytes l = length l.block - l.y.at
