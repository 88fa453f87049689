-- `card::read::zeros_at` meets its contract: the loop's invariant is that the bytes passed are
-- zero.
use Rattle.std.proofs.Common.{◌≡◌, ◌+◌, true, eqb, get_or}
use Rattle.table.specs.Table.{all}
use Rattle.card.proofs.read.zeros_at.Given as goal

abbrev pub invariant-loop-k : goal.invariant-loop-k
invariant-loop-k l = all l.k (λ j. eqb (get_or l.bytes (l.at + j) 0) 0) ≡ true
