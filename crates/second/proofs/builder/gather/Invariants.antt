-- `second::builder::gather` meets its contract. The loop's invariant: the records after the first
-- are those of the entries found so far.
use mathlib.Core.Path.{◌≡◌}
use Prim.Native.Nat.{◌+◌, ◌*◌}
use lib.ListN.{length}
use Rattle.table.specs.Automaton.{automaton}
use Rattle.table.proofs.Over.{Written}
use Rattle.second.specs.Entries.{found, entries, second_word}
use Rattle.second.proofs.builder.gather.Given as goal

abbrev pub invariant-loop-n : goal.invariant-loop-n
invariant-loop-n l = (l.count ≡ length (found (automaton l.words) l.n)) × Written 32 (16 + l.count * 16) (second_word (automaton l.words) (entries (automaton l.words))) l.initial.second l.second
