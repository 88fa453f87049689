-- `table::ids_ok` meets its contract: the loop joins what tells of each id and the next that they
-- are in order (`Seen`).
use Rattle.table.proofs.Ids.{Seen}
use Rattle.table.proofs.ids_ok.Given as goal

abbrev pub invariant-loop-a : goal.invariant-loop-a
invariant-loop-a l = Seen l.words l.last l.a l.joined
