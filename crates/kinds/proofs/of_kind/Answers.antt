-- `kinds::of_kind` meets its contract: the loop collects each byte whose entry has the type's bit,
-- and the table's rule says which bytes those are.
use Rattle.std.proofs.Common.{◌≡◌, ap₂, ◌∙◌, arith, get_or, ◌+◌}
use Rattle.sets.proofs.Laws.{set_of-ext}
use Rattle.kinds.specs.Kind.{is_kind}
use Rattle.kinds.specs.Invariants.{Ruled}
use Rattle.kinds.proofs.Bits.{meets, meets-true, meets-false, meets-kind}
use Rattle.kinds.proofs.Collect.{members_below, begun, grown, kept, collected}
use Rattle.kinds.proofs.of_kind.Invariants.{entered}
use Rattle.kinds.proofs.of_kind.Goals as goal
use Rattle.kinds.proofs.of_kind.Goals.{then-kinds-b-ne0, else-kinds-b-ne0}

pub loop-b-init : goal.loop-b-init
loop-b-init c = c.empty-s.ensures ∙ begun (entered c.kind_table-kinds.result c.bit_of-bit.result)

pub loop-b-preserved : goal.loop-b-preserved
loop-b-preserved c =
    let b = c.loop-b.b in
    let bit = c.bit_of-bit.result in
    let kinds = c.kind_table-kinds.result in
    let f = entered kinds bit in
    elim c.if-kinds-b-ne0.branch [
      | then-kinds-b-ne0 w ↦ w.s-is ∙ w.insert-t.ensures ∙ grown f b c.loop-b.invariant (meets-true (get_or kinds b 0) bit w.if-kinds-b-ne0.true)
      | else-kinds-b-ne0 w ↦ w.s-is ∙ kept f b c.loop-b.invariant (meets-false (get_or kinds b 0) bit w.if-kinds-b-ne0.false)
    ]

-- after the last byte
pub returns-after-kinds-b-ne0 : goal.returns-after-kinds-b-ne0
unfolding Ruled
returns-after-kinds-b-ne0 c =
    let b = c.loop-b.b in
    let bit = c.bit_of-bit.result in
    let kinds = c.kind_table-kinds.result in
    let f = entered kinds bit in
    let k = c.args.k in
    let all : c.if-kinds-b-ne0.s ≡ members_below f (b + 1) =
    elim c.if-kinds-b-ne0.branch [
      | then-kinds-b-ne0 w ↦ w.s-is ∙ w.insert-t.ensures ∙ grown f b c.loop-b.invariant (meets-true (get_or kinds b 0) bit w.if-kinds-b-ne0.true)
      | else-kinds-b-ne0 w ↦ w.s-is ∙ kept f b c.loop-b.invariant (meets-false (get_or kinds b 0) bit w.if-kinds-b-ne0.false)
    ] in
    collected f (b + 1) all (omega arith) ∙ set_of-ext f (is_kind k) (λ q h. ap₂ meets (c.kind_table-kinds.ensures q h) c.bit_of-bit.ensures ∙ meets-kind k q)
