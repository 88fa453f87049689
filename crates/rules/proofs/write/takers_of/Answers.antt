-- `rules::write::takers_of` meets its contract. The loop's invariant: the set has the takers among
-- the first `i` new positions.
use mathlib.Core.Path.{◌≡◌, sym, ap, ◌∙◌}
use mathlib.Core.List.{List}
use Prim.Native.Nat.{ℕ, ◌+◌}
use native.Mathlib.Omega.{arith}
use Rattle.sets.specs.Set.{inserted}
use Rattle.rules.specs.Invariants.{new_takers}
use Rattle.rules.proofs.Steps.{takers-none, takers-hit, takers-miss}
use Rattle.rules.proofs.write.takers_of.Goals as goal
use Rattle.rules.proofs.write.takers_of.Goals.{then-takes_at, else-takes_at}

pub loop-i-init : goal.loop-i-init
loop-i-init c = c.empty-s.ensures ∙ takers-none c.args.takes.now c.args.span.n c.args.x

pub loop-i-preserved : goal.loop-i-preserved
loop-i-preserved c =
    let takes = c.args.takes.now in
    let n = c.args.span.n in
    let x = c.args.x in
    let l = c.loop-i in
    let test = sym c.takes_at.ensures in
    elim c.if-takes_at.branch [
      | then-takes_at w ↦ w.s-is ∙ w.insert-r.ensures ∙ ap (λ (r : List ℕ). inserted r (n + l.i)) l.invariant ∙ takers-hit takes n x l.i (test ∙ w.if-takes_at.true)
      | else-takes_at w ↦ w.s-is ∙ l.invariant ∙ takers-miss takes n x l.i (test ∙ w.if-takes_at.false)
    ]

pub returns : goal.returns
returns c =
    let l = c.loop-i in
    let e : l.i ≡ c.args.span.more = omega arith in l.invariant ∙ ap (λ (k : ℕ). new_takers c.args.takes.now c.args.span.n k c.args.x) e
