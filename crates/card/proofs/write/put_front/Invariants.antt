-- `card::write::put_front` meets its contract: the loop's invariant is that the bytes below k are
-- written.
use Prim.Native.Nat.{◌-◌, ◌≤◌}
use Rattle.card.specs.Block.{crc_at}
use Rattle.card.specs.Invariants.{front_byte}
use Rattle.table.proofs.Over.{Written}
use Rattle.card.proofs.write.put_front.Given as goal

abbrev pub invariant-loop-k : goal.invariant-loop-k
invariant-loop-k l = Written 0 l.k (front_byte l.words l.i) l.initial.block l.block
