-- The node's number falls, and within one node the copies that are left.
use Prim.Native.Nat.{ℕ, ◌+◌, ◌*◌, ◌-◌, ◌^◌}
use Rattle.marks.proofs.write_out.+child_copies_node.Given as goal

-- more than the copies that a node's word can ask for
abbrev pub span : ℕ
span = 2 ^ 34

abbrev pub decreases-child : goal.decreases-child
decreases-child l = span * l.k

abbrev pub decreases-copies : goal.decreases-copies
decreases-copies l = span * l.k + 1 + l.n + l.j

abbrev pub decreases-node : goal.decreases-node
decreases-node l = span * l.k + (span - 1)
