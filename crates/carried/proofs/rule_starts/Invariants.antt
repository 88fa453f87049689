-- `carried::rule_starts` meets its contract: each turn gives the lowest rule that is left its
-- start.
use mathlib.Core.List.{List}
use Prim.Native.Nat.{ℕ}
use lib.ListN.{get_or}
use Rattle.sets.specs.Set.{has}
use Rattle.steps.specs.Invariants.{least_owned}
use Rattle.steps.proofs.Carrying.{RulesLeft}
use Rattle.carried.proofs.rule_starts.Given as goal

-- what a rule is given: the smallest start of its positions among those found
abbrev pub give : (words found starts from : List ℕ) → ℕ → ℕ
give words found starts from a = least_owned words (has found) a starts (get_or from a 0)

abbrev pub invariant-loop-a : goal.invariant-loop-a
invariant-loop-a l = RulesLeft (give l.words l.found l.starts l.from) l.rules l.a-iterator.0 l.new
