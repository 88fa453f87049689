-- `steps::windows::sift_all` meets its contract: each turn looks at the lowest rule that is left.
use Rattle.table.specs.Layout.{windowed_of}
use Rattle.steps.proofs.Sifting.{SiftLeft, inside}
use Rattle.steps.proofs.windows.sift_all.Given as goal

abbrev pub invariant-loop-a : goal.invariant-loop-a
invariant-loop-a l = SiftLeft (windowed_of l.words) (inside l.words l.end) l.rules l.a-iterator.0 l.found
