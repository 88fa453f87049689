-- `watcher::watch::watch_block` meets its contract: the bytes passed are taken, and every scan of
-- the rest is accepted and takes one.
use Prim.Native.Nat.{◌-◌}
use lib.ListN.{length}
use Rattle.watcher.specs.Invariants.{pairs, Roomy}
use Rattle.watcher.proofs.Watching.{Half}
use Rattle.watcher.proofs.watch.watch_block.Given as goal

abbrev pub invariant-loop-from : goal.invariant-loop-from
invariant-loop-from l = Half pairs l.words l.block l.initial.stream l.stream l.from × Roomy l.ids l.offsets

abbrev pub decreases-loop-from : goal.decreases-loop-from
decreases-loop-from l = length l.block - l.from
