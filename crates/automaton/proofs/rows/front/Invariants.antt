-- `rows::front` meets its contract: after i turns the first i words are moved.
use mathlib.Core.Path.{◌≡◌}
use lib.ListN.{length, drop}
use Rattle.automaton.proofs.Padded.{moved_up}
use Rattle.automaton.proofs.rows.front.Given as goal

abbrev pub invariant-loop-i : goal.invariant-loop-i
invariant-loop-i l = (length l.rows ≡ 1024) × (l.out ≡ moved_up (drop l.at l.rows) l.i)
