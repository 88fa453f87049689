-- `rules::write::put_gap` meets its contract: each call wrote its part, and the gap's number says
-- which of the parts there are.
use mathlib.Core.Path.{◌≡◌, ap, ◌∙◌}
use Prim.Native.Nat.{ℕ, ◌+◌, ◌*◌}
use native.Mathlib.Omega.{arith}
use Rattle.table.specs.Layout.{follow_at}
use Rattle.rules.specs.Invariants.{follow_put}
use Rattle.rules.proofs.Steps.{gap-start, gap-end, gap-inside}
use Rattle.rules.proofs.write.put_gap.Goals as goal

pub returns-then-gap-ge-LAST_GAPS : goal.returns-then-gap-ge-LAST_GAPS
returns-then-gap-ge-LAST_GAPS c =
    let a = c.args in
    gap-start a.gap a.n a.parts.now a.words.now c.merge_row.new.words c.merge_row.ensures c.if-gap-ge-LAST_GAPS.true

pub returns-then-gap-ge-FOLLOW_GAPS : goal.returns-then-gap-ge-FOLLOW_GAPS
returns-then-gap-ge-FOLLOW_GAPS c =
    let a = c.args in
    gap-end a.gap a.n a.parts.now a.words.now c.merge_row.new.words c.merge_row.ensures
    c.merge_row-2.new.words c.merge_row-2.ensures (omega arith) c.if-gap-ge-FOLLOW_GAPS.true

pub returns : goal.returns
returns c =
    let a = c.args in
    let e : 5120 + a.gap * 1024 ≡ follow_at a.gap 0 = omega arith in
    gap-inside a.gap a.n a.parts.now a.words.now c.merge_row.new.words c.merge_row.ensures
    c.merge_row-2.new.words c.merge_row-2.ensures (omega arith) c.put_follow.new.words
    (c.put_follow.ensures ∙ ap (λ (at : ℕ). follow_put at a.n a.parts.now.follow a.parts.now.positions c.merge_row-2.new.words) e)
