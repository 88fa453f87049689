-- `stream::scan::over_eights` meets its contract: each turn passes eight bytes with which no match
-- can begin.
use Prim.Native.Nat.{◌-◌}
use Rattle.table.specs.Automaton.{automaton}
use Rattle.stream.specs.Invariants.{NoOpener}
use Rattle.stream.proofs.scan.over_eights.Given as goal

abbrev pub invariant-loop-at : goal.invariant-loop-at
invariant-loop-at l = NoOpener (automaton l.words) l.block l.from l.end l.at

abbrev pub decreases-loop-at : goal.decreases-loop-at
decreases-loop-at l = l.end - l.at
