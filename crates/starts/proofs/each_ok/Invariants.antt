-- `starts::each_ok` meets its contract: each turn asks one start more.
use Rattle.std.proofs.Common.{◌≡◌}
use Rattle.sets.specs.Set.{on}
use Rattle.starts.specs.Invariants.{starts_in}
use Rattle.starts.proofs.each_ok.Given as goal

abbrev pub invariant-loop-i : goal.invariant-loop-i
invariant-loop-i l = l.ok ≡ starts_in l.starts l.base l.i (on l.there) l.taken
