-- `rules::write::digits_with` meets its contract: each turn asks one place and sets its digit.
use mathlib.Core.Path.{◌≡◌}
use mathlib.Core.Bool.{Bool, cond}
use Prim.Native.Nat.{ℕ, ◌-◌}
use lib.Dec.{eqb, ltb}
use Rattle.sets.specs.Set.{on}
use Rattle.table.proofs.Members.{places_below}
use Rattle.rules.proofs.write.digits_with.Given as goal

-- the digit of place a
abbrev pub digit : (k : ℕ) → Bool → (old a : ℕ) → Bool
digit k new old a = cond (ltb a k) (on old a) (cond (eqb a k) new (on old (a - 1)))

abbrev pub invariant-loop-a : goal.invariant-loop-a
invariant-loop-a l = l.found ≡ places_below l.a (digit l.k l.new l.old)
