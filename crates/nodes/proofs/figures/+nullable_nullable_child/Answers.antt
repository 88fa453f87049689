-- The test for no bytes and the test of a child meet their contracts together: each arm is the
-- figure of the node that the word says.
use mathlib.Core.Path.{ap, ◌∙◌}
use mathlib.Core.Bool.{◌&&◌}
use mathlib.Core.Logic.{⊎_elim}
use borrow.Author.Tests.{eq-eqb, le-leb}
use Rattle.meaning.specs.Count.{nullable}
use Rattle.nodes.specs.Invariants.{child_at}
use Rattle.nodes.proofs.Base.{or-first, or-second}
use Rattle.nodes.proofs.Counts.{inside, outside, nullable-none, nullable-some}
use Rattle.nodes.proofs.Nodes.{figure}
use Rattle.nodes.proofs.figures.+nullable_nullable_child.Goals as goal

pub nullable-returns-in-Empty : goal.nullable-returns-in-Empty
unfolding nullable
nullable-returns-in-Empty t c = ⊎_elim (figure nullable _ _ c.node_at.ensures.is) (λ e. figure nullable _ _ c.node_at.ensures.is e.1) c.in-Empty.is

pub nullable-returns-in-Item : goal.nullable-returns-in-Item
unfolding nullable
nullable-returns-in-Item t c = figure nullable _ _ c.node_at.ensures.is c.in-Item.is

pub nullable-returns-then-nullable_child : goal.nullable-returns-then-nullable_child
unfolding nullable
nullable-returns-then-nullable_child t c =
    let first = ap (λ v. v && nullable (child_at c.args.a.now c.args.k c.in-Then.y)) c.if-nullable_child.ensures in
    cc (first, figure nullable c.args.a.now c.args.k c.node_at.ensures.is c.in-Then.is)

pub nullable-returns-else-nullable_child : goal.nullable-returns-else-nullable_child
unfolding nullable
nullable-returns-else-nullable_child t c =
    let first = ap (λ v. v && nullable (child_at c.args.a.now c.args.k c.in-Then.y)) c.if-nullable_child.ensures in
    cc (first, figure nullable c.args.a.now c.args.k c.node_at.ensures.is c.in-Then.is)

pub nullable-returns-then-nullable_child-2 : goal.nullable-returns-then-nullable_child-2
unfolding nullable
nullable-returns-then-nullable_child-2 t c =
    or-first _ c.if-nullable_child-2.true c.if-nullable_child-2.ensures (figure nullable _ _ c.node_at.ensures.is c.in-Or.is)

pub nullable-returns-else-nullable_child-2 : goal.nullable-returns-else-nullable_child-2
unfolding nullable
nullable-returns-else-nullable_child-2 t c =
    or-second c.nullable_child-else-nullable_child-2.ensures c.if-nullable_child-2.ensures (figure nullable _ _ c.node_at.ensures.is c.in-Or.is)

pub nullable-returns-then-least-eq0 : goal.nullable-returns-then-least-eq0
nullable-returns-then-least-eq0 t c =
    eq-eqb _ 0 c.if-least-eq0.true ∙ nullable-none _ _ _ c.if-least-eq0.true ∙ figure nullable _ _ c.node_at.ensures.is c.in-Repeat.is

pub nullable-returns-else-least-eq0 : goal.nullable-returns-else-least-eq0
nullable-returns-else-least-eq0 t c =
    c.nullable_child-else-least-eq0.ensures ∙ nullable-some _ _ _ c.if-least-eq0.false ∙ figure nullable _ _ c.node_at.ensures.is c.in-Repeat.is

pub nullable_child-returns-then-x-k : goal.nullable_child-returns-then-x-k
unfolding nullable
nullable_child-returns-then-x-k t c = rw (le-leb _ _ c.if-x-k.true) (outside nullable _ _ _ c.if-x-k.true)

pub nullable_child-returns-else-x-k : goal.nullable_child-returns-else-x-k
nullable_child-returns-else-x-k t c = c.nullable.ensures ∙ inside nullable _ _ _ c.if-x-k.false
