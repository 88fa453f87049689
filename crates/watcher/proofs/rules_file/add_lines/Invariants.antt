-- `watcher::rules_file::add_lines` meets its contract: a line keeps the table and ends within the
-- text, and there are no more lines than bytes passed.
use Prim.Native.Nat.{◌+◌, ◌-◌}
use lib.ListN.{length}
use Rattle.watcher.proofs.Keeping.{Passed}
use Rattle.watcher.proofs.rules_file.add_lines.Given as goal

abbrev pub invariant-loop-from : goal.invariant-loop-from
invariant-loop-from l = Passed l.text l.words l.out l.from l.line l.at

abbrev pub decreases-loop-from : goal.decreases-loop-from
decreases-loop-from l = length l.text + 1 - l.from
