-- `card::read::is_block` meets its contract: each early answer shows a link of the test that fails;
-- with the others in order, the CRC decides.
use mathlib.Core.Path.{sym, ap, ap₂, ◌∙◌}
use mathlib.Core.Bool.{true≢false}
use Prim.Native.Nat.{ℕ, ◌+◌, ◌-◌, ◌*◌}
use native.Mathlib.Omega.{arith}
use borrow.Author.Tests.{not-true, not-false}
use lib.Dec.{eqb}
use lib.ListN.{get_or}
use Rattle.table.specs.Table.{all}
use Rattle.card.specs.Block.{payload_at, payload_bytes}
use Rattle.card.proofs.Images.{words-most}
use Rattle.card.proofs.Blocks.{refused, by-sum}
use Rattle.card.proofs.read.is_block.Goals as goal

pub returns-then-block-ne-BLOCK_BYTES : goal.returns-then-block-ne-BLOCK_BYTES
returns-then-block-ne-BLOCK_BYTES c = sym (refused c.args.number c.args.block.now (λ p. c.if-block-ne-BLOCK_BYTES.true p.long))

pub returns-then-number : goal.returns-then-number
returns-then-number c = sym (refused c.args.number c.args.block.now (λ p. omega (arith, p.within, c.if-number.true)))

pub returns-then-number_at-number : goal.returns-then-number_at-number
returns-then-number_at-number c = sym (refused c.args.number c.args.block.now (λ p. c.if-number_at-number.true (c.number_at.ensures ∙ p.number)))

pub overflow_mul-used : goal.overflow_mul-used
overflow_mul-used c = omega (arith, c.words_in-used.ensures, words-most c.args.number)

pub returns-then-number_at-used : goal.returns-then-number_at-used
returns-then-number_at-used c =
    let x = c.args in
    sym (refused x.number x.block.now
    (λ p. c.if-number_at-used.true (c.number_at-2.ensures ∙ p.used ∙ ap (λ (n : ℕ). n * 8) (sym c.words_in-used.ensures))))

pub overflow_sub-used : goal.overflow_sub-used
overflow_sub-used c = omega (arith, c.words_in-used.ensures, words-most c.args.number)

pub zeros_at-requires : goal.zeros_at-requires
zeros_at-requires c = omega (arith, c.words_in-used.ensures, words-most c.args.number)

pub returns-then-not-zeros_at : goal.returns-then-not-zeros_at
returns-then-not-zeros_at c =
    let x = c.args in
    sym (refused x.number x.block.now
    (λ p. true≢false (sym p.filler
    ∙ ap (λ (n : ℕ). all (payload_bytes - n * 8) (λ k. eqb (get_or x.block.now (payload_at + n * 8 + k) 0) 0)) (sym c.words_in-used.ensures)
    ∙ sym c.zeros_at.ensures ∙ not-true _ c.if-not-zeros_at.true-raw)))

pub returns : goal.returns
returns c =
    let x = c.args in
    let n = c.words_in-used in
    ap₂ eqb c.number_at-3.ensures c.crc_of.ensures
    ∙ sym (by-sum x.number x.block.now c.if-block-ne-BLOCK_BYTES.false (omega arith)
    (sym c.number_at.ensures ∙ c.if-number_at-number.false)
    (sym c.number_at-2.ensures ∙ c.if-number_at-used.false ∙ ap (λ (n : ℕ). n * 8) n.ensures)
    (ap (λ (n : ℕ). all (payload_bytes - n * 8) (λ k. eqb (get_or x.block.now (payload_at + n * 8 + k) 0) 0)) (sym n.ensures)
    ∙ sym c.zeros_at.ensures ∙ not-false _ c.if-not-zeros_at.false-raw))
