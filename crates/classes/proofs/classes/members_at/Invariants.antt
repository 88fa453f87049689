-- `classes::classes::members_at` meets its contract. The invariant: the members from i on, with
-- what was collected, give the class that is asked for. Each turn reads a mark or a member and goes
-- on after it; the measure is what is left of the bytes.
use mathlib.Core.Path.{◌≡◌}
use mathlib.Core.Bool.{true, false}
use Prim.Native.Nat.{◌-◌}
use lib.ListN.{length, drop}
use Rattle.sets.specs.Set.{empty_set}
use Rattle.classes.specs.Class.{members_of}
use Rattle.classes.proofs.classes.members_at.Given as goal

abbrev pub invariant-loop-i : goal.invariant-loop-i
invariant-loop-i l =
    members_of l.caseless l.negated l.first l.quoted l.set 0 (drop l.i l.s) l.i ≡ members_of l.caseless l.negated true false empty_set 0 (drop l.at l.s) l.at

abbrev pub decreases-loop-i : goal.decreases-loop-i
decreases-loop-i l = length l.s - l.i
