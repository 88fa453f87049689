-- The count of positions and the count of a child meet their contracts together: each arm is the
-- figure of the node that the word says.
use mathlib.Core.Path.{◌∙◌}
use mathlib.Core.Logic.{⊎_elim}
use Prim.Native.Nat.{◌*◌, ◌^◌, ◌≤◌}
use native.Mathlib.Omega.{arith}
use native.Mathlib.Nat.{mul-le-mul}
use Rattle.meaning.specs.Count.{saturating, capped}
use Rattle.nodes.specs.Invariants.{child_at}
use Rattle.nodes.proofs.Counts.{small, copied-small, inside, outside}
use Rattle.nodes.proofs.Nodes.{figure}
use Rattle.nodes.proofs.figures.+count_count_child.Goals as goal

pub count-overflow_mul-copies : goal.count-overflow_mul-copies
count-overflow_mul-copies t c =
    let h : c.count_child.result ≤ 257 = omega (arith, c.count_child.ensures, small (child_at c.args.a.now c.args.k c.in-Repeat.child)) in
    let k : c.copies.result ≤ 2 ^ 32 = omega (arith, c.copies.ensures, copied-small c.in-Repeat.least c.in-Repeat.more c.in-Repeat.ensures.small.1 c.in-Repeat.ensures.small.2) in
    let m : c.copies.result * c.count_child.result ≤ 2 ^ 32 * 257 = mul-le-mul k h in
    omega arith

pub count-overflow_add-count_child : goal.count-overflow_add-count_child
count-overflow_add-count_child t c =
    omega (arith, c.count_child-in-Then.ensures, c.count_child-in-Then-2.ensures, small (child_at c.args.a.now c.args.k c.in-Then.x), small (child_at c.args.a.now c.args.k c.in-Then.y))

pub count-returns-in-Empty : goal.count-returns-in-Empty
unfolding saturating
count-returns-in-Empty t c = ⊎_elim (figure saturating _ _ c.node_at.ensures.is) (λ e. figure saturating _ _ c.node_at.ensures.is e.1) c.in-Empty.is

pub count-returns-in-Item : goal.count-returns-in-Item
unfolding saturating
count-returns-in-Item t c = figure saturating _ _ c.node_at.ensures.is c.in-Item.is

pub count-returns-in-Repeat : goal.count-returns-in-Repeat
unfolding saturating capped
count-returns-in-Repeat t c =
    rw (c.min.ensures, c.copies.ensures, c.count_child.ensures) (figure saturating _ _ c.node_at.ensures.is c.in-Repeat.is)

pub count-returns-in-Then : goal.count-returns-in-Then
unfolding saturating capped
count-returns-in-Then t c =
    rw (c.min-in-Then.ensures, c.count_child-in-Then.ensures, c.count_child-in-Then-2.ensures)
    (⊎_elim (figure saturating _ _ c.node_at.ensures.is) (figure saturating _ _ c.node_at.ensures.is) c.in-Then.is)

pub count_child-returns-then-x-k : goal.count_child-returns-then-x-k
count_child-returns-then-x-k t c = c.count.ensures ∙ inside saturating _ _ _ c.if-x-k.true

pub count_child-returns-else-x-k : goal.count_child-returns-else-x-k
unfolding saturating
count_child-returns-else-x-k t c = outside saturating _ _ _ c.if-x-k.false
