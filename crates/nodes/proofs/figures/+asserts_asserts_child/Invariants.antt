-- The node number falls from a node to its child.
use Prim.Native.Nat.{◌+◌, ◌*◌}
use Rattle.nodes.proofs.figures.+asserts_asserts_child.Given as goal

abbrev pub decreases-asserts : goal.decreases-asserts
decreases-asserts l = 2 * l.k + 1

abbrev pub decreases-asserts_child : goal.decreases-asserts_child
decreases-asserts_child l = 2 * l.k
