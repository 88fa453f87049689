-- `lines::digits_at` meets its contract: the loop's invariant is `Reading`, which takes a step at
-- each digit and gives the answer where the digits end.
use Rattle.std.proofs.Common.{◌≤◌, max, length}
use Rattle.lines.proofs.Reading.{Reading}
use Rattle.lines.proofs.digits_at.Given as goal

abbrev pub invariant-loop-at : goal.invariant-loop-at
invariant-loop-at l = record { reading : Reading l.line l.from l.value l.at; within : l.at ≤ max l.from (length l.line) }
