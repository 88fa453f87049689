-- `card::write_block` meets its contract: each refusal shows the test that fails; past them, the
-- writes make the image.
use mathlib.Core.Path.{sym, ap, ◌∙◌}
use native.Mathlib.Omega.{arith}
use borrow.Author.Tests.{not-true, not-false}
use Rattle.table.proofs.Test as test
use Rattle.card.specs.Invariants.{crc_put}
use Rattle.card.proofs.Images.{written-image}
use Rattle.card.proofs.Answers.{fits_both, fits-not-long, fits-not-there, write-no-table, write-no-block, write_done}
use Rattle.card.proofs.write_block.Goals as goal

pub returns-then-not-is_table : goal.returns-then-not-is_table
returns-then-not-is_table c =
    let x = c.args in
    write-no-table x.words.now x.number x.block.now (sym c.is_table.ensures ∙ not-true _ c.if-not-is_table.true-raw)

pub returns-then-block-ne-BLOCK_BYTES : goal.returns-then-block-ne-BLOCK_BYTES
returns-then-block-ne-BLOCK_BYTES c =
    let x = c.args in
    write-no-block x.words.now x.number x.block.now (sym c.is_table.ensures ∙ not-false _ c.if-not-is_table.false-raw)
    (fits-not-long x.number x.block.now c.if-block-ne-BLOCK_BYTES.true)

pub returns-then-number : goal.returns-then-number
returns-then-number c =
    let x = c.args in
    write-no-block x.words.now x.number x.block.now (sym c.is_table.ensures ∙ not-false _ c.if-not-is_table.false-raw)
    (fits-not-there x.number x.block.now c.if-number.true)

pub put_front-requires : goal.put_front-requires
put_front-requires c =
    let x = c.args in
    ((test.passes x.words.now (sym c.is_table.ensures ∙ not-false _ c.if-not-is_table.false-raw)).long, omega arith, c.if-block-ne-BLOCK_BYTES.false)

pub returns : goal.returns
returns c =
    let x = c.args in
    let t = x.words.now in
    let b = x.block.now in
    let long = c.if-block-ne-BLOCK_BYTES.false in
    let done = write_done t x.number b (sym c.is_table.ensures ∙ not-false _ c.if-not-is_table.false-raw) (fits_both x.number b long (omega arith)) in
    (done.0, c.put_crc.ensures ∙ ap crc_put c.put_front.ensures ∙ written-image t x.number b long ∙ done.1)
