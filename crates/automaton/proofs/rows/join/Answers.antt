-- `rows::join` meets its contract: after p turns the set is in the row of each position of the
-- other below p. An empty set joins nothing.
use mathlib.Core.Path.{◌≡◌, sym, ap, subst, ◌∙◌}
use mathlib.Core.Bool.{Bool, ◌||◌, or-true}
use Prim.Native.Nat.{◌+◌}
use native.Mathlib.Omega.{arith}
use Rattle.sets.specs.Set.{is_empty}
use Rattle.automaton.specs.Invariants.{Joined}
use Rattle.automaton.proofs.Words.{joined-none, joined-nothing, joined-hit, joined-miss}
use Rattle.automaton.proofs.rows.join.Goals as goal
use Rattle.automaton.proofs.rows.join.Goals.{then-contains, else-contains, then-is_empty-via-then-is_empty, then-is_empty-via-else-is_empty+then-is_empty-2}

pub returns-then-is_empty : goal.returns-then-is_empty
returns-then-is_empty c =
    let a = c.args in
    joined-nothing a.last a.first a.rows.now (elim c.then-is_empty.branch [
      | then-is_empty-via-then-is_empty w ↦ ap (λ (b : Bool). b || is_empty a.first) (sym c.is_empty.ensures ∙ w.if-is_empty.true)
      | then-is_empty-via-else-is_empty+then-is_empty-2 w ↦
          ap (λ (b : Bool). is_empty a.last || b) (sym w.is_empty-else-is_empty.ensures ∙ w.if-is_empty-2.true) ∙ or-true (is_empty a.last)
    ])

pub loop-p-init : goal.loop-p-init
loop-p-init c = joined-none c.args.last c.args.first c.args.rows.now

pub loop-p-preserved : goal.loop-p-preserved
loop-p-preserved c =
    let a = c.args in
    let l = c.loop-p in
    let Next = Joined a.last a.first (l.p + 1) a.rows.now in
    elim c.if-contains.branch [
      | then-contains w ↦ subst Next (sym (w.rows-is ∙ w.add.ensures)) (joined-hit l.invariant (omega arith) (sym c.contains.ensures ∙ w.if-contains.true))
      | else-contains w ↦ subst Next (sym w.rows-is) (joined-miss l.invariant (sym c.contains.ensures ∙ w.if-contains.false))
    ]

pub returns : goal.returns
returns c =
    let l = c.loop-p in
    let e : l.p ≡ 256 = omega arith in
    rw e at l.invariant
