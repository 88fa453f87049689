-- `card::read::zeros_at` meets its contract: the loop's invariant is that the bytes passed are
-- zero.
use Rattle.std.proofs.Common.{◌≡◌, ℕ, ◌+◌, sym, ap, ◌∙◌, eqb, get_or, arith, eq-eqb, ne_eqb}
use Rattle.table.specs.Table.{all}
use Rattle.table.proofs.Test.{all_none, all_more, all-false}
use Rattle.card.proofs.read.zeros_at.Goals as goal

pub loop-k-init : goal.loop-k-init
loop-k-init c = all_none (λ j. eqb (get_or c.args.bytes.now (c.args.at + j) 0) 0)

pub returns-then-bytes-at-ne0 : goal.returns-then-bytes-at-ne0
returns-then-bytes-at-ne0 c =
    let x = c.args in
    sym (all-false (λ j. eqb (get_or x.bytes.now (x.at + j) 0) 0) x.n c.loop-k.k (omega arith) (ne_eqb _ _ c.if-bytes-at-ne0.true))

pub loop-k-preserved : goal.loop-k-preserved
loop-k-preserved c =
    let x = c.args in
    all_more (λ j. eqb (get_or x.bytes.now (x.at + j) 0) 0) c.loop-k.k c.loop-k.invariant (eq-eqb _ _ c.if-bytes-at-ne0.false)

pub returns : goal.returns
returns c =
    let x = c.args in
    let e : c.loop-k.k ≡ x.n = omega arith in
    sym c.loop-k.invariant ∙ ap (λ (n : ℕ). all n (λ j. eqb (get_or x.bytes.now (x.at + j) 0) 0)) e
