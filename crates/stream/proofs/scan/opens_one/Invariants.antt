-- `stream::scan::opens_one` meets its contract: each turn asks one byte more.
use mathlib.Core.Path.{◌≡◌}
use lib.ListN.{get_or}
use Rattle.sets.specs.Set.{any}
use Rattle.table.specs.Automaton.{automaton}
use Rattle.stream.proofs.scan.opens_one.Given as goal

abbrev pub invariant-loop-byte : goal.invariant-loop-byte
invariant-loop-byte l = l.some ≡ any l.byte-index (λ i. (automaton l.words).opens (get_or l.bytes i 0))
