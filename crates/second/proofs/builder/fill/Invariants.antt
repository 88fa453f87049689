-- `second::builder::fill` meets its contract. The loop's invariant: the words of the bytes before
-- `n` are written.
use Prim.Native.Nat.{◌+◌}
use Rattle.table.specs.Automaton.{automaton}
use Rattle.table.proofs.Over.{Written}
use Rattle.second.specs.Entries.{entries, second_word}
use Rattle.second.proofs.builder.fill.Given as goal

abbrev pub invariant-loop-n : goal.invariant-loop-n
invariant-loop-n l = Written 4096 (4096 + l.n) (second_word (automaton l.words) (entries (automaton l.words))) l.initial.second l.second
