-- `lengths::long_word` meets its contract: each turn looks at the lowest position that is left
-- (`SiftLeft`).
use mathlib.Core.Bool.{Bool, not, ◌||◌}
use mathlib.Core.List.{List}
use Prim.Native.Nat.{ℕ, ◌+◌, ◌*◌}
use Rattle.sets.specs.Set.{on}
use Rattle.steps.proofs.Sifting.{SiftLeft}
use Rattle.lengths.specs.Invariants.{long_at}
use Rattle.lengths.proofs.long_word.Given as goal

-- a position of the word passes
abbrev pub passes : (t starts : List ℕ) → (end keeping i : ℕ) → ℕ → Bool
passes t starts end keeping i k = not (on keeping k) || long_at t starts end (i * 64 + k)

abbrev pub invariant-loop-k : goal.invariant-loop-k
invariant-loop-k l = SiftLeft l.keeping (passes l.words l.starts l.end l.keeping l.i) l.word l.k-iterator.0 l.found
