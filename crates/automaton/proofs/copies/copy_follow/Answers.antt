-- `copies::copy_follow` meets its contract. The loop's invariant: the first `i` rows are copied.
use mathlib.Core.Path.{◌≡◌, sym, subst}
use Prim.Native.Nat.{◌+◌}
use native.Mathlib.Omega.{arith}
use Rattle.automaton.specs.Invariants.{Copied}
use Rattle.automaton.proofs.Moving.{copied_none, copied-turn}
use Rattle.automaton.proofs.copies.copy_follow.Goals as goal

pub loop-i-init : goal.loop-i-init
loop-i-init c = copied_none c.args.c c.args.n c.args.rows.now

pub loop-i-preserved : goal.loop-i-preserved
loop-i-preserved c =
    let a = c.args in
    let l = c.loop-i in
    subst (Copied a.c a.n (l.i + 1) a.rows.now) (sym c.add.ensures) (copied-turn l.invariant (omega arith) (omega arith) c.row.ensures c.moved-new.ensures)

pub returns : goal.returns
returns c =
    let l = c.loop-i in
    let e : l.i ≡ c.args.n = omega arith in
    rw e at l.invariant
