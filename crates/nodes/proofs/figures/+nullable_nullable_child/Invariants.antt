-- The node number falls from a node to its child.
use Prim.Native.Nat.{◌+◌, ◌*◌}
use Rattle.nodes.proofs.figures.+nullable_nullable_child.Given as goal

abbrev pub decreases-nullable : goal.decreases-nullable
decreases-nullable l = 2 * l.k + 1

abbrev pub decreases-nullable_child : goal.decreases-nullable_child
decreases-nullable_child l = 2 * l.k
