-- `card::write::front_byte` meets its contract: each answer is the byte of its part of the block.
use mathlib.Core.Path.{ap, ◌∙◌}
use Prim.Native.Nat.{ℕ, ◌-◌, ◌*◌, ◌<◌}
use native.Mathlib.Omega.{arith}
use Rattle.card.specs.Bytes.{byte_of}
use Rattle.card.specs.Block.{payload_at, used_in}
use Rattle.card.proofs.Images.{words-most, words-within, front-number, front-used, front-word, front-filler}
use Rattle.card.proofs.write.front_byte.Goals as goal

pub returns-then-k-lt-USED_AT : goal.returns-then-k-lt-USED_AT
returns-then-k-lt-USED_AT c =
    let x = c.args in
    c.byte_of.ensures ∙ front-number x.words.now x.i x.k c.if-k-lt-USED_AT.true

pub overflow_mul-used : goal.overflow_mul-used
overflow_mul-used c = omega (arith, c.words_in-used.ensures, words-most c.args.i)

pub returns-then-k-lt-PAYLOAD_AT : goal.returns-then-k-lt-PAYLOAD_AT
returns-then-k-lt-PAYLOAD_AT c =
    let x = c.args in
    c.byte_of-then-k-lt-PAYLOAD_AT.ensures ∙ ap (λ (n : ℕ). byte_of (n * 8) (x.k - 2)) c.words_in-used.ensures
    ∙ front-used x.words.now x.i x.k c.if-k-lt-USED_AT.false c.if-k-lt-PAYLOAD_AT.true

pub bounds-words-i : goal.bounds-words-i
bounds-words-i c =
    omega (arith, c.words_in-used.ensures, words-within c.args.i (omega arith))

pub returns-then-p-used : goal.returns-then-p-used
returns-then-p-used c =
    let x = c.args in
    let l : x.k - payload_at < used_in x.i = omega (arith, c.words_in-used.ensures, c.if-p-used.true) in
    c.byte_of-then-p-used.ensures ∙ front-word x.words.now x.i x.k c.if-k-lt-PAYLOAD_AT.false l

pub returns : goal.returns
returns c =
    let x = c.args in
    front-filler x.words.now x.i x.k c.if-k-lt-PAYLOAD_AT.false (omega (arith, c.words_in-used.ensures, c.if-p-used.false))
