-- `copies::moved` meets its contract. The loop's invariant: the members among the first `i`
-- positions are moved.
use mathlib.Core.Path.{◌≡◌, sym, ap, ◌∙◌}
use mathlib.Core.List.{List}
use Prim.Native.Nat.{ℕ, ◌+◌}
use native.Mathlib.Omega.{arith}
use Rattle.sets.specs.Set.{inserted}
use Rattle.automaton.specs.Invariants.{moved_on}
use Rattle.automaton.proofs.Moving.{moved_none, moved-hit, moved-miss}
use Rattle.automaton.proofs.copies.moved.Goals as goal
use Rattle.automaton.proofs.copies.moved.Goals.{then-contains, else-contains}

pub loop-i-init : goal.loop-i-init
loop-i-init c = c.empty-out.ensures ∙ moved_none c.args.c c.args.n c.args.s

pub loop-i-preserved : goal.loop-i-preserved
loop-i-preserved c =
    let a = c.args in
    let l = c.loop-i in
    let test = sym c.contains.ensures in
    elim c.if-contains.branch [
      | then-contains w ↦
          w.out-is ∙ w.insert-t.ensures ∙ ap (λ (s : List ℕ). inserted s (a.c + a.n + l.i)) l.invariant
          ∙ moved-hit a.c a.n a.s l.i (test ∙ w.if-contains.true)
      | else-contains w ↦ w.out-is ∙ l.invariant ∙ moved-miss a.c a.n a.s l.i (test ∙ w.if-contains.false)
    ]

pub returns : goal.returns
returns c =
    let a = c.args in
    let l = c.loop-i in
    let e : l.i ≡ a.n = omega arith in
    l.invariant ∙ ap (λ (i : ℕ). moved_on a.c a.n i a.s) e
