-- `rules::write::put_owners` meets its contract: the loop writes the owners from the lowest
-- position up, each from what stood there.
use mathlib.Core.Path.{◌≡◌, ap₂, ◌∙◌}
use Prim.Native.Nat.{◌-◌}
use native.Mathlib.Omega.{arith}
use Rattle.table.specs.Layout.{max_positions, owner_at}
use Rattle.table.proofs.Over.{written_none, written-up, written-above, written_all}
use Rattle.rules.specs.Words.{owner_with}
use Rattle.rules.specs.Invariants.{owners_put}
use Rattle.rules.proofs.write.put_owners.Goals as goal

pub loop-q-init : goal.loop-q-init
loop-q-init c = written_none (omega arith)

pub bounds-words-q : goal.bounds-words-q
bounds-words-q c = omega (arith, c.loop-q.invariant.long)

pub bounds-words-q-in-loop-q : goal.bounds-words-q-in-loop-q
bounds-words-q-in-loop-q c = omega (arith, c.loop-q.invariant.long)

pub loop-q-preserved : goal.loop-q-preserved
loop-q-preserved c =
    let a = c.args in
    let l = c.loop-q in
    let e : l.q ≡ owner_at l.q - owner_at 0 = omega arith in
    written-up l.invariant (omega arith) (omega arith) (omega arith)
    (c.owner_with.ensures ∙ ap₂ (owner_with a.span.n a.span.more a.k) e (written-above l.invariant (owner_at l.q) (omega arith)))

pub returns : goal.returns
unfolding owners_put
returns c =
    let l = c.loop-q in
    let e : owner_at l.q ≡ owner_at max_positions = omega arith in
    written_all l.invariant e
