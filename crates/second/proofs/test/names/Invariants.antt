-- `second::test::names` meets its contract. The loop's invariant: what the entries before e name is
-- joined.
use mathlib.Core.Path.{◌≡◌}
use Rattle.second.specs.Invariants.{named_by_all}
use Rattle.second.proofs.test.names.Given as goal

abbrev pub invariant-loop-e : goal.invariant-loop-e
invariant-loop-e l = (l.all ≡ named_by_all l.second l.e)
