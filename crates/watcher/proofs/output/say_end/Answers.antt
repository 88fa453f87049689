-- `watcher::output::say_end` is safe: the lines lie within the buffer.
use native.Mathlib.Omega.{arith}
use Rattle.lines.proofs.Buffers.{placed-inside, reports-inside}
use Rattle.watcher.proofs.output.say_end.Goals as goal

pub flush-requires : goal.flush-requires
flush-requires c =
    let reports = reports-inside _ _ (omega arith) _ _ _ _ _ c.put_reports-at.ensures in
    placed-inside _ _ reports _ _ _ c.put_end-size.ensures
