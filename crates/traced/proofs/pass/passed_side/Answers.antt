-- `traced::pass::passed_side` meets its contract.
use mathlib.Core.Path.{sym, ap, ◌∙◌}
use mathlib.Core.Bool.{Bool, cond}
use Prim.Native.Nat.{◌-◌}
use native.Mathlib.Omega.{arith}
use lib.ListN.{get_or}
use borrow.Author.Tests.{lt-ltb, le-ltb}
use Rattle.kinds.specs.Side.{side_of}
use Rattle.traced.proofs.pass.passed_side.Goals as goal

pub overflow_sub-to : goal.overflow_sub-to
overflow_sub-to c = omega (arith, c.if-from-to.true)

pub bounds-block-to : goal.bounds-block-to
bounds-block-to c = omega (arith, c.requires, c.if-from-to.true)

pub returns-then-from-to : goal.returns-then-from-to
returns-then-from-to c =
    let a = c.args in
    c.side_of.ensures
    ∙ ap (λ (b : Bool). cond b (side_of (get_or a.block.now (a.to - 1) 0)) a.side) (sym (lt-ltb a.from a.to c.if-from-to.true))

pub returns-else-from-to : goal.returns-else-from-to
returns-else-from-to c =
    let a = c.args in
    ap (λ (b : Bool). cond b (side_of (get_or a.block.now (a.to - 1) 0)) a.side) (sym (le-ltb a.from a.to c.if-from-to.false))
