-- The node's number falls from a node to its child.
use Prim.Native.Nat.{◌+◌, ◌*◌}
use Rattle.automaton.proofs.forms.+child_node.Given as goal

abbrev pub decreases-child : goal.decreases-child
decreases-child l = 2 * l.k

abbrev pub decreases-node : goal.decreases-node
decreases-node l = 2 * l.k + 1
