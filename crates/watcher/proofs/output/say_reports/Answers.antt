-- `watcher::output::say_reports` is safe: the lines lie within the buffer.
use native.Mathlib.Omega.{arith}
use Rattle.lines.proofs.Buffers.{reports-inside}
use Rattle.watcher.proofs.output.say_reports.Goals as goal

pub flush-requires : goal.flush-requires
flush-requires c = reports-inside _ _ (omega arith) _ _ _ _ _ c.put_reports-size.ensures
