-- `quiet::next_opener` meets its contract: each turn passes one byte with which no match can
-- begin.
use Rattle.table.specs.Automaton.{automaton}
use Rattle.stream.specs.Invariants.{NoOpener}
use Rattle.quiet.proofs.next_opener.Given as goal

abbrev pub invariant-loop-at : goal.invariant-loop-at
invariant-loop-at l = NoOpener (automaton l.words) l.block l.from l.end l.at
