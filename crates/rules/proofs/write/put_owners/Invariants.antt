-- `rules::write::put_owners` meets its contract: the loop writes the owners from the lowest
-- position up, each from what stood there.
use Prim.Native.Nat.{◌-◌}
use lib.ListN.{get_or}
use Rattle.table.specs.Layout.{owner_at}
use Rattle.table.proofs.Over.{Written}
use Rattle.rules.specs.Words.{owner_with}
use Rattle.rules.proofs.write.put_owners.Given as goal

abbrev pub invariant-loop-q : goal.invariant-loop-q
invariant-loop-q l = Written (owner_at 0) (owner_at l.q) (λ w. owner_with l.span.n l.span.more l.k (w - owner_at 0) (get_or l.initial.words w 0)) l.initial.words l.words
