-- `card::read_block` meets its contract: each refusal shows the test that fails; past them, the
-- words written are those of the block.
use mathlib.Core.Path.{sym, ◌∙◌}
use borrow.Author.Tests.{not-true, not-false}
use Rattle.card.proofs.Images.{read-words}
use Rattle.card.proofs.Blocks.{passes}
use Rattle.card.proofs.Answers.{read-no-words, read-no-block, read_done}
use Rattle.card.proofs.read_block.Goals as goal

pub returns-then-words-lt-TABLE_WORDS : goal.returns-then-words-lt-TABLE_WORDS
returns-then-words-lt-TABLE_WORDS c =
    let x = c.args in
    read-no-words x.words.now x.number x.block.now c.if-words-lt-TABLE_WORDS.true

pub returns-then-not-is_block : goal.returns-then-not-is_block
returns-then-not-is_block c =
    let x = c.args in
    read-no-block x.words.now x.number x.block.now c.if-words-lt-TABLE_WORDS.false
    (sym c.is_block.ensures ∙ not-true _ c.if-not-is_block.true-raw)

pub put_payload-requires : goal.put_payload-requires
put_payload-requires c =
    let x = c.args in
    let p = passes x.number x.block.now (sym c.is_block.ensures ∙ not-false _ c.if-not-is_block.false-raw) in
    (c.if-words-lt-TABLE_WORDS.false, p.within, p.long)

pub returns : goal.returns
returns c =
    let x = c.args in
    let u = x.words.now in
    let b = x.block.now in
    let long = c.if-words-lt-TABLE_WORDS.false in
    let is = sym c.is_block.ensures ∙ not-false _ c.if-not-is_block.false-raw in
    let done = read_done u x.number b long is in
    (done.0, c.put_payload.ensures ∙ read-words u x.number b long (passes x.number b is).within ∙ done.1)
