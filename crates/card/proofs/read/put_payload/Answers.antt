-- `card::read::put_payload` meets its contract: the loop's invariant is that the block's first j
-- words are written.
use mathlib.Core.Path.{◌≡◌, ap, ◌∙◌}
use Prim.Native.Nat.{ℕ, ◌+◌, ◌-◌, ◌*◌}
use native.Mathlib.Omega.{arith}
use Rattle.table.proofs.Over.{written_none, written-up, written_all}
use Rattle.card.specs.Bytes.{number_at}
use Rattle.card.specs.Block.{payload_at, first_word, words_in}
use Rattle.card.proofs.Images.{words-most, words-within}
use Rattle.card.proofs.read.put_payload.Goals as goal

pub loop-j-init : goal.loop-j-init
loop-j-init c = written_none (omega arith)

pub overflow_mul-j : goal.overflow_mul-j
overflow_mul-j c = omega (arith, words-most c.args.i)

pub overflow_add-j : goal.overflow_add-j
overflow_add-j c = omega (arith, words-most c.args.i)

pub number_at-requires : goal.number_at-requires
number_at-requires c = omega (arith, words-most c.args.i, c.words_in-n.ensures)

pub overflow_add-words : goal.overflow_add-words
overflow_add-words c = omega (arith, words-within c.args.i (omega arith), c.words_in-n.ensures)

pub offset_bounds-words-first : goal.offset_bounds-words-first
offset_bounds-words-first c = omega (arith, words-within c.args.i (omega arith), c.words_in-n.ensures)

pub bounds-words-first : goal.bounds-words-first
bounds-words-first c = omega (arith, words-within c.args.i (omega arith), c.words_in-n.ensures, c.loop-j.invariant.long)

pub loop-j-preserved : goal.loop-j-preserved
loop-j-preserved c =
    let x = c.args in
    let l = c.loop-j in
    let e : l.j ≡ first_word x.i + l.j - first_word x.i = omega arith in
    written-up l.invariant (omega arith) (omega (arith, words-within x.i (omega arith), c.words_in-n.ensures)) (omega arith)
    (c.number_at.ensures ∙ ap (λ (k : ℕ). number_at x.block.now (payload_at + k * 8) 8) e)

pub returns : goal.returns
returns c =
    let x = c.args in
    let l = c.loop-j in
    let e : first_word x.i + l.j ≡ first_word x.i + words_in x.i = omega (arith, c.words_in-n.ensures) in
    written_all l.invariant e
