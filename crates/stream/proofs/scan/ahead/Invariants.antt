-- `stream::scan::ahead` meets its contract: a live set with a member is not passed over, nor is the
-- first byte of the stream, and each turn passes one byte with which no match can begin.
use Rattle.table.specs.Automaton.{automaton}
use Rattle.stream.specs.Invariants.{NoOpener}
use Rattle.stream.proofs.scan.ahead.Given as goal

abbrev pub invariant-loop-at : goal.invariant-loop-at
invariant-loop-at l = NoOpener (automaton l.words) l.block l.from l.end l.at
