-- `step` meets its contract. The invariant: what is left below row j makes of the present marks
-- what all makes of the first ones.
use mathlib.Core.Path.{◌≡◌}
use Prim.Native.Nat.{◌≤◌}
use lib.ListN.{length}
use Rattle.marks.specs.Invariants.{hits_of}
use Rattle.marks.proofs.Passes.{Remains}
use Rattle.marks.proofs.moves.step.Given as goal

abbrev pub invariant-loop-j : goal.invariant-loop-j
invariant-loop-j l =
    (l.j ≤ l.n) × (length l.comes ≡ 512) × (length l.marks ≡ length l.initial.marks) × (l.n ≡ 0 → l.marks ≡ l.initial.marks) × Remains l.parts l.n l.g (hits_of l.a l.byte) l.initial.marks l.come l.j l.comes l.marks
