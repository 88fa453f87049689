-- `rules::write::mask_rows` meets its contract. The loop's invariant: the rows before `k` are
-- masked.
use mathlib.Core.Path.{ap, ◌∙◌}
use mathlib.Core.List.{List}
use Prim.Native.Nat.{ℕ, ◌+◌, ◌*◌}
use native.Mathlib.Omega.{arith}
use Rattle.sets.specs.Set.{empty_set}
use Rattle.rules.specs.Invariants.{masked_rows, merged}
use Rattle.rules.proofs.Steps.{rows_none, rows-turn, rows_whole}
use Rattle.rules.proofs.write.mask_rows.Goals as goal

pub loop-k-init : goal.loop-k-init
loop-k-init c = rows_none c.args.at c.args.n (λ j. empty_set) c.args.words.now

pub merge_row-requires : goal.merge_row-requires
merge_row-requires c = omega (arith, c.loop-k.invariant.long)

pub loop-k-preserved : goal.loop-k-preserved
loop-k-preserved c =
    let a = c.args in
    let l = c.loop-k in
    rows-turn a.at l.k a.n (λ j. empty_set) a.words.now l.words c.merge_row.new.words l.invariant
    (c.merge_row.ensures ∙ ap (λ (s : List ℕ). merged (a.at + l.k * 4) a.n s l.words) c.empty-none.ensures)

pub returns : goal.returns
unfolding masked_rows
returns c =
    let a = c.args in
    let l = c.loop-k in
    rows_whole a.at a.rows l.k a.n (λ j. empty_set) a.words.now l.words l.invariant (omega arith)
