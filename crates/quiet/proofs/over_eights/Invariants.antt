-- `quiet::over_eights` meets its contract: each turn passes eight bytes with which no match
-- can begin, and each turn in it asks one of them.
use mathlib.Core.Path.{◌≡◌}
use mathlib.Core.Bool.{false}
use mathlib.Core.List.{List}
use Prim.Native.Nat.{ℕ, ◌+◌, ◌-◌, ◌<◌, ◌≤◌}
use lib.ListN.{get_or}
use Rattle.table.specs.Automaton.{Automaton, automaton}
use Rattle.stream.specs.Invariants.{NoOpener}
use Rattle.quiet.proofs.over_eights.Given as goal

-- none of the first n bytes from `at` on
abbrev pub NoneOf : (w : Automaton) (block : List ℕ) (at n : ℕ) → Type 0
NoneOf w block at n = (j : ℕ) → at ≤ j → j < at + n → w.opens (get_or block j 0) ≡ false

abbrev pub invariant-loop-i : goal.invariant-loop-i
invariant-loop-i l = (l.i ≤ 8) × (l.some ≡ false → NoneOf (automaton l.words) l.block l.at l.i)

abbrev pub decreases-loop-i : goal.decreases-loop-i
decreases-loop-i l = 8 - l.i

abbrev pub invariant-loop-at : goal.invariant-loop-at
invariant-loop-at l = NoOpener (automaton l.words) l.block l.from l.end l.at

abbrev pub decreases-loop-at : goal.decreases-loop-at
decreases-loop-at l = l.end - l.at
