-- `watcher::trace::trace_block` meets its contract: the bytes passed are taken, and every scan of
-- the rest is accepted and takes one.
use Prim.Native.Nat.{◌-◌}
use lib.ListN.{length}
use Rattle.watcher.specs.Invariants.{traces, Wide}
use Rattle.watcher.proofs.Watching.{Half}
use Rattle.watcher.proofs.trace.trace_block.Given as goal

abbrev pub invariant-loop-from : goal.invariant-loop-from
invariant-loop-from l = Half traces l.words l.block l.initial.traced l.traced l.from × Wide l.ids l.offsets l.starts l.relatives

abbrev pub decreases-loop-from : goal.decreases-loop-from
decreases-loop-from l = length l.block - l.from
