-- `rules::write::put_words` meets its contract. The loop's invariant: the words before `i` are
-- written.
use Prim.Native.Nat.{◌+◌, ◌-◌, ◌≤◌}
use lib.ListN.{get_or}
use Rattle.table.proofs.Over.{Written}
use Rattle.rules.proofs.write.put_words.Given as goal

abbrev pub invariant-loop-i : goal.invariant-loop-i
invariant-loop-i l = (l.i ≤ l.n) × Written l.at (l.at + l.i) (λ w. get_or l.src (w - l.at) 0) l.initial.words l.words
