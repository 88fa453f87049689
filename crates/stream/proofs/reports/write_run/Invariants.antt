-- `stream::reports::write_run` meets its contract: each turn writes the report of the lowest rule
-- that is left (`Writing`).
use Rattle.table.specs.Automaton.{automaton}
use Rattle.stream.specs.Byte.{given}
use Rattle.stream.specs.Calls.{lists}
use Rattle.stream.proofs.Runs.{Writing}
use Rattle.stream.proofs.reports.write_run.Given as goal

abbrev pub invariant-loop-a : goal.invariant-loop-a
invariant-loop-a l =
    Writing (automaton l.words) l.ending l.reported (given (automaton l.words) l.end) l.from
    (lists l.initial.ids l.initial.offsets) (lists l.ids l.offsets) l.a-iterator.0 l.n
