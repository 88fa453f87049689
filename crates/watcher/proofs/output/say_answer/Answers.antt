-- `watcher::output::say_answer` meets its contract: the line lies within the buffer.
use native.Mathlib.Omega.{arith}
use Rattle.lines.proofs.Buffers.{placed-inside}
use Rattle.watcher.proofs.output.say_answer.Goals as goal

pub returns-then-at-next : goal.returns-then-at-next
returns-then-at-next c = placed-inside _ _ c.requires _ _ _ c.put_refused-next.ensures

pub returns : goal.returns
returns c = placed-inside _ _ (omega arith) _ _ _ c.put_refused-next-2.ensures
