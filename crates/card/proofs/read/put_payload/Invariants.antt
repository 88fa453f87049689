-- `card::read::put_payload` meets its contract: the loop's invariant is that the block's first j
-- words are written.
use Prim.Native.Nat.{◌+◌, ◌-◌, ◌*◌, ◌≤◌}
use Rattle.table.proofs.Over.{Written}
use Rattle.card.specs.Bytes.{number_at}
use Rattle.card.specs.Block.{payload_at, first_word, words_in}
use Rattle.card.proofs.read.put_payload.Given as goal

abbrev pub invariant-loop-j : goal.invariant-loop-j
invariant-loop-j l = Written (first_word l.i) (first_word l.i + l.j) (λ w. number_at l.block (payload_at + (w - first_word l.i) * 8) 8) l.initial.words l.words
