-- `kinds::close_case` meets its contract: the loop collects each byte that is in the set or whose
-- other case is.
use Rattle.std.proofs.Common.{◌≡◌, ℕ, Bool, ◌||◌, List}
use Rattle.sets.specs.Set.{has}
use Rattle.kinds.specs.Case.{other_case}
use Rattle.kinds.proofs.Collect.{members_below}
use Rattle.kinds.proofs.close_case.Given as goal

-- byte q is collected
abbrev pub entered : List ℕ → ℕ → Bool
entered s q = has s q || has s (other_case q)

abbrev pub invariant-loop-b : goal.invariant-loop-b
invariant-loop-b l = l.t ≡ members_below (entered l.s) l.b
