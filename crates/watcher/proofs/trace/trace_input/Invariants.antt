-- `watcher::trace::trace_input` is safe and ends: a block is not empty and is taken whole, so the
-- stream grows towards its limit.
use Prim.Native.Nat.{◌-◌}
use Rattle.stream.specs.Valid.{stream_limit}
use Rattle.watcher.specs.Invariants.{traces}
use Rattle.watcher.proofs.Watching.{Input}
use Rattle.watcher.proofs.trace.trace_input.Given as goal

abbrev pub invariant-loop-stdin : goal.invariant-loop-stdin
invariant-loop-stdin l = Input traces l.words l.ids l.offsets l.traced

abbrev pub decreases-loop-stdin : goal.decreases-loop-stdin
decreases-loop-stdin l = stream_limit - l.traced.stream.taken
