-- `rules::write::put_gaps` meets its contract. The loop's invariant: the sets of the gaps before
-- `g` are put in.
use mathlib.Core.Path.{◌≡◌}
use lib.ListN.{length}
use Rattle.nodes.specs.Nodes.{tree_at}
use Rattle.rules.specs.Gaps.{parts_at}
use Rattle.rules.specs.Invariants.{gaps_put}
use Rattle.rules.proofs.write.put_gaps.Given as goal

abbrev pub invariant-loop-g : goal.invariant-loop-g
invariant-loop-g l = record {
  long : length l.words ≡ length l.initial.words;
  put : l.words ≡ gaps_put l.g l.n (parts_at (tree_at l.nodes l.root) l.n) l.initial.words;
}
