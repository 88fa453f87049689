-- `rules::write::mask_rows` meets its contract. The loop's invariant: the rows before `k` are
-- masked.
use Prim.Native.Nat.{◌+◌, ◌*◌}
use Rattle.sets.specs.Set.{empty_set}
use Rattle.rules.specs.Invariants.{rows_word}
use Rattle.table.proofs.Over.{Written}
use Rattle.rules.proofs.write.mask_rows.Given as goal

abbrev pub invariant-loop-k : goal.invariant-loop-k
invariant-loop-k l = Written l.at (l.at + l.k * 4) (rows_word l.at l.n (λ j. empty_set) l.initial.words) l.initial.words l.words
