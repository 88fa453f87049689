-- `of_word` meets its contract: each arm is one of the tests of `node_in`.
use mathlib.Core.Path.{◌≡◌}
use Prim.Native.Nat.{ℕ, ◌%◌}
use native.Mathlib.Omega.{arith}
use borrow.Author.Tests.{ne_eqb}
use Rattle.nodes.specs.Node.{node_in}
use Rattle.nodes.proofs.layout.Node.of_word.Goals as goal

pub returns-in-1-clause-is : goal.returns-in-1-clause-is
unfolding node_in
returns-in-1-clause-is c = rw c.in-1.is

pub returns-in-2-clause-is : goal.returns-in-2-clause-is
unfolding node_in
returns-in-2-clause-is c = rw (c.in-2.is, c.of_number.ensures)

pub returns-in-3-clause-is : goal.returns-in-3-clause-is
unfolding node_in
returns-in-3-clause-is c = rw c.in-3.is

pub returns-in-4-clause-is : goal.returns-in-4-clause-is
unfolding node_in
returns-in-4-clause-is c = rw c.in-4.is

pub returns-then-z-eq-ENDLESS-clause-is : goal.returns-then-z-eq-ENDLESS-clause-is
unfolding node_in
returns-then-z-eq-ENDLESS-clause-is c = rw (c.in-5.is, c.if-z-eq-ENDLESS.true)

pub returns-else-z-eq-ENDLESS-clause-is : goal.returns-else-z-eq-ENDLESS-clause-is
unfolding node_in
returns-else-z-eq-ENDLESS-clause-is c = rw (c.in-5.is, ne_eqb _ _ c.if-z-eq-ENDLESS.false)

pub returns-in_default-clause-is : goal.returns-in_default-clause-is
unfolding node_in
returns-in_default-clause-is c =
    let off = λ (n : ℕ) (h : c.args.w % 8 ≡ n → ⊥). ne_eqb (c.args.w % 8) n h in
    rw (off 1 (λ e. omega arith), off 2 (λ e. omega arith), off 3 (λ e. omega arith), off 4 (λ e. omega arith), off 5 (λ e. omega arith))
