-- `starts::joined` meets its contract: each turn joins one start more.
use Rattle.starts.specs.Invariants.{NoneIn}
use Rattle.starts.proofs.joined.Given as goal

abbrev pub invariant-loop-i : goal.invariant-loop-i
invariant-loop-i l = NoneIn l.starts l.base l.i l.all
