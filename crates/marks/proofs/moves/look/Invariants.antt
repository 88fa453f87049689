-- `look` meets its contract. The invariant: the values of the first j rows are right.
use Rattle.marks.specs.Invariants.{Looks}
use Rattle.marks.proofs.moves.look.Given as goal

abbrev pub invariant-loop-j : goal.invariant-loop-j
invariant-loop-j l = Looks l.parts l.j l.g l.marks l.initial.cores l.cores l.initial.ends l.ends
