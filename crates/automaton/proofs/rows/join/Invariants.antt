-- `rows::join` meets its contract: after p turns the set is in the row of each position of the
-- other below p. An empty set joins nothing.
use Rattle.automaton.specs.Invariants.{Joined}
use Rattle.automaton.proofs.rows.join.Given as goal

abbrev pub invariant-loop-p : goal.invariant-loop-p
invariant-loop-p l = Joined l.last l.first l.p l.initial.rows l.rows
