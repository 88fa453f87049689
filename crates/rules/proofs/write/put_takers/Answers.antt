-- `rules::write::put_takers` meets its contract. The loop's invariant: the rows of the bytes before
-- `x` are merged with the new takers.
use mathlib.Core.Path.{ap, ◌∙◌}
use mathlib.Core.List.{List}
use Prim.Native.Nat.{ℕ}
use native.Mathlib.Omega.{arith}
use Rattle.table.specs.Layout.{takers_at}
use Rattle.rules.specs.Invariants.{takers_put, new_takers, merged}
use Rattle.rules.proofs.Steps.{rows_none, rows-turn, rows_whole}
use Rattle.rules.proofs.write.put_takers.Goals as goal

pub loop-x-init : goal.loop-x-init
loop-x-init c = rows_none (takers_at 0) c.args.span.n (new_takers c.args.takes.now c.args.span.n c.args.span.more) c.args.words.now

pub merge_row-requires : goal.merge_row-requires
merge_row-requires c = omega (arith, c.loop-x.invariant.long)

pub loop-x-preserved : goal.loop-x-preserved
loop-x-preserved c =
    let a = c.args in
    let l = c.loop-x in
    let n = a.span.n in
    rows-turn (takers_at 0) l.x n (new_takers a.takes.now n a.span.more) a.words.now l.words c.merge_row.new.words l.invariant
    (c.merge_row.ensures ∙ ap (λ (s : List ℕ). merged (takers_at l.x) n s l.words) c.takers_of-new.ensures)

pub returns : goal.returns
unfolding takers_put
returns c =
    let a = c.args in
    let l = c.loop-x in
    rows_whole (takers_at 0) 256 l.x a.span.n (new_takers a.takes.now a.span.n a.span.more) a.words.now l.words l.invariant (omega arith)
