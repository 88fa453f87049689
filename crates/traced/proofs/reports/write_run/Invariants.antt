-- `traced::reports::write_run` meets its contract: each turn writes the report of the lowest rule
-- that is left (`Writing`).
use Rattle.table.specs.Automaton.{automaton}
use Rattle.traced.specs.Byte.{given}
use Rattle.traced.specs.Calls.{lists}
use Rattle.traced.specs.Invariants.{at}
use Rattle.traced.proofs.Runs.{Writing}
use Rattle.traced.proofs.reports.write_run.Given as goal

abbrev pub invariant-loop-a : goal.invariant-loop-a
invariant-loop-a l =
    Writing (automaton l.words) l.ending l.reported (given (automaton l.words) l.end (at l.froms)) l.marks.first l.place
    (lists l.initial.ids l.initial.offsets l.initial.starts l.initial.relatives) (lists l.ids l.offsets l.starts l.relatives) l.a-iterator.0 l.n
