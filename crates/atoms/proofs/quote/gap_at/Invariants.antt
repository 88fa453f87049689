-- `atoms::quote::gap_at` meets its contract. The invariant: the marks before i are read. A mark
-- stands inside, so the measure, what is left of the bytes, falls.
use Prim.Native.Nat.{◌-◌}
use lib.ListN.{length}
use Rattle.atoms.proofs.Gaps.{Passed}
use Rattle.atoms.proofs.quote.gap_at.Given as goal

abbrev pub invariant-loop-after : goal.invariant-loop-after
invariant-loop-after l =
    Passed l.quoted l.s l.at l.i l.after

abbrev pub decreases-loop-after : goal.decreases-loop-after
decreases-loop-after l = length l.s - l.i
