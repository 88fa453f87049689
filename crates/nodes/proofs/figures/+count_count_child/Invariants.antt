-- The node number falls from a node to its child.
use Prim.Native.Nat.{◌+◌, ◌*◌}
use Rattle.nodes.proofs.figures.+count_count_child.Given as goal

abbrev pub decreases-count : goal.decreases-count
decreases-count l = 2 * l.k + 1

abbrev pub decreases-count_child : goal.decreases-count_child
decreases-count_child l = 2 * l.k
