-- `card::bytes::number_at` meets its contract: the loop's invariant is that x is the number in the
-- bytes from j on.
use Prim.Native.Nat.{◌+◌, ◌-◌}
use native.Mathlib.Omega.{arith}
use Rattle.card.proofs.Numbers.{taken_none, taken-one, taken-all, taken-fits}
use Rattle.card.proofs.bytes.number_at.Goals as goal

pub loop-j-init : goal.loop-j-init
loop-j-init c = taken_none c.args.bytes.now c.args.at c.args.n

pub overflow_cast-b : goal.overflow_cast-b
overflow_cast-b c = omega (arith, c.type_inv.bytes (c.args.at + (c.loop-j.j - 1)))

pub overflow_mul-x : goal.overflow_mul-x
overflow_mul-x c =
    let x = c.args in
    let l = c.loop-j in
    omega (
      arith,
      taken-fits x.bytes.now (λ k. omega (arith, c.type_inv.bytes k)) x.at x.n l.x l.j l.invariant c.loop-j-test.true (omega arith),
    )

pub overflow_add-x : goal.overflow_add-x
overflow_add-x c =
    let x = c.args in
    let l = c.loop-j in
    omega (
      arith,
      c.type_inv.bytes (x.at + (l.j - 1)),
      taken-fits x.bytes.now (λ k. omega (arith, c.type_inv.bytes k)) x.at x.n l.x l.j l.invariant c.loop-j-test.true (omega arith),
    )

pub loop-j-preserved : goal.loop-j-preserved
loop-j-preserved c =
    let x = c.args in
    let l = c.loop-j in
    taken-one x.bytes.now x.at x.n l.x l.j l.invariant c.loop-j-test.true

pub returns : goal.returns
returns c =
    let x = c.args in
    let l = c.loop-j in
    taken-all x.bytes.now x.at x.n l.x l.j l.invariant c.loop-j-test.false
