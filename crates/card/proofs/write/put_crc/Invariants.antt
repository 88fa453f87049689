-- `card::write::put_crc` meets its contract: the loop's invariant is that the bytes of the CRC
-- below k are written.
use Prim.Native.Nat.{◌-◌, ◌≤◌}
use lib.ListN.{take}
use Rattle.card.specs.Bytes.{byte_of}
use Rattle.card.specs.Crc.{crc32}
use Rattle.card.specs.Block.{block_bytes, crc_at}
use Rattle.table.proofs.Over.{Written}
use Rattle.card.proofs.write.put_crc.Given as goal

abbrev pub invariant-loop-k : goal.invariant-loop-k
invariant-loop-k l = Written crc_at l.k (λ j. byte_of (crc32 (take crc_at l.initial.block)) (j - crc_at)) l.initial.block l.block
