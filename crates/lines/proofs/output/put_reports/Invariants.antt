-- `lines::output::put_reports` meets its contract: the loop's invariant is that the lines of the
-- reports passed are placed.
use Rattle.std.proofs.Common.{◌≡◌}
use Rattle.lines.specs.Output.{buffer, reports_placed}
use Rattle.lines.proofs.output.put_reports.Given as goal

abbrev pub invariant-loop-i : goal.invariant-loop-i
invariant-loop-i l = buffer l.next l.out ≡ reports_placed (buffer l.at l.initial.out) l.ids l.offsets l.i
