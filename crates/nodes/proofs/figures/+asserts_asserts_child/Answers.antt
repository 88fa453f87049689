-- The test for an assertion and the test of a child meet their contracts together: each arm is the
-- figure of the node that the word says.
use mathlib.Core.Path.{◌∙◌}
use mathlib.Core.Logic.{⊎_elim}
use borrow.Author.Tests.{le-ltb}
use Rattle.nodes.specs.Nodes.{asserts}
use Rattle.nodes.proofs.Base.{or-first, or-second}
use Rattle.nodes.proofs.Counts.{inside, outside}
use Rattle.nodes.proofs.Nodes.{figure}
use Rattle.nodes.proofs.figures.+asserts_asserts_child.Goals as goal

pub asserts-returns-in-Empty : goal.asserts-returns-in-Empty
unfolding asserts
asserts-returns-in-Empty t c = ⊎_elim (figure asserts _ _ c.node_at.ensures.is) (figure asserts _ _ c.node_at.ensures.is) c.in-Empty.is

pub asserts-returns-in-Assertion : goal.asserts-returns-in-Assertion
unfolding asserts
asserts-returns-in-Assertion t c = figure asserts _ _ c.node_at.ensures.is c.in-Assertion.is

pub asserts-returns-in-Repeat : goal.asserts-returns-in-Repeat
unfolding asserts
asserts-returns-in-Repeat t c = c.asserts_child.ensures ∙ figure asserts _ _ c.node_at.ensures.is c.in-Repeat.is

pub asserts-returns-then-asserts_child : goal.asserts-returns-then-asserts_child
unfolding asserts
asserts-returns-then-asserts_child t c =
    ⊎_elim (λ e. or-first _ c.if-asserts_child.true c.if-asserts_child.ensures (figure asserts _ _ c.node_at.ensures.is e))
    (λ e. or-first _ c.if-asserts_child.true c.if-asserts_child.ensures (figure asserts _ _ c.node_at.ensures.is e)) c.in-Then.is

pub asserts-returns-else-asserts_child : goal.asserts-returns-else-asserts_child
unfolding asserts
asserts-returns-else-asserts_child t c =
    ⊎_elim (λ e. or-second c.asserts_child-else-asserts_child.ensures c.if-asserts_child.ensures (figure asserts _ _ c.node_at.ensures.is e))
    (λ e. or-second c.asserts_child-else-asserts_child.ensures c.if-asserts_child.ensures (figure asserts _ _ c.node_at.ensures.is e)) c.in-Then.is

pub asserts_child-returns-then-x-k : goal.asserts_child-returns-then-x-k
asserts_child-returns-then-x-k t c = c.asserts.ensures ∙ inside asserts _ _ _ c.if-x-k.true

pub asserts_child-returns-else-x-k : goal.asserts_child-returns-else-x-k
unfolding asserts
asserts_child-returns-else-x-k t c = rw (le-ltb _ _ c.if-x-k.false) (outside asserts _ _ _ c.if-x-k.false)
