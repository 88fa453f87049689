-- `lines::line_end` meets its contract: the line that is read from `at` on ends where the whole
-- line does, since no byte passed ends a line.
use Rattle.std.proofs.Common.{◌≡◌, ◌≤◌, max, length}
use Rattle.lines.specs.Lines.{line_end}
use Rattle.lines.proofs.line_end.Given as goal

abbrev pub invariant-loop-at : goal.invariant-loop-at
invariant-loop-at l = record { same : line_end l.text l.at ≡ line_end l.text l.from; within : l.at ≤ max l.from (length l.text) }
