-- `rules::write::put_openers` meets its contract: the loop writes a word for each byte, and leaves
-- the sets that it reads.
use mathlib.Core.List.{List}
use Prim.Native.Nat.{ℕ, ◌-◌}
use Rattle.table.specs.Layout.{opener_at}
use Rattle.table.proofs.Over.{Written}
use Rattle.rules.specs.Invariants.{opener_of}
use Rattle.rules.proofs.write.put_openers.Given as goal

-- the words after the openers of the bytes below x
abbrev pub Opened : (t : List ℕ) → (x : ℕ) → List ℕ → Type 0
Opened t x s = Written (opener_at 0) (opener_at x) (λ w. opener_of t (w - opener_at 0)) t s

abbrev pub invariant-loop-x : goal.invariant-loop-x
invariant-loop-x l = Opened l.initial.words l.x l.words
