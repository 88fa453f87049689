-- `rules::write::put_takers` meets its contract. The loop's invariant: the rows of the bytes before
-- `x` are merged with the new takers.
use Rattle.table.specs.Layout.{takers_at}
use Rattle.rules.specs.Invariants.{new_takers, rows_word}
use Rattle.table.proofs.Over.{Written}
use Rattle.rules.proofs.write.put_takers.Given as goal

abbrev pub invariant-loop-x : goal.invariant-loop-x
invariant-loop-x l = Written (takers_at 0) (takers_at l.x) (rows_word (takers_at 0) l.span.n (new_takers l.takes l.span.n l.span.more) l.initial.words) l.initial.words l.words
