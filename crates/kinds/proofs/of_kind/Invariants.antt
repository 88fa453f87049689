-- `kinds::of_kind` meets its contract: the loop collects each byte whose entry has the type's bit,
-- and the table's rule says which bytes those are.
use Rattle.std.proofs.Common.{◌≡◌, ℕ, Bool, List, get_or}
use Rattle.kinds.proofs.Bits.{meets}
use Rattle.kinds.proofs.Collect.{members_below}
use Rattle.kinds.proofs.of_kind.Given as goal

-- byte q is collected
abbrev pub entered : List ℕ → ℕ → ℕ → Bool
entered kinds bit q = meets (get_or kinds q 0) bit

abbrev pub invariant-loop-b : goal.invariant-loop-b
invariant-loop-b l = l.s ≡ members_below (entered l.kinds l.bit) l.b
