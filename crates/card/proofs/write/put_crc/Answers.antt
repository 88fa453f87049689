-- `card::write::put_crc` meets its contract: the loop's invariant is that the bytes of the CRC
-- below k are written.
use Prim.Native.Nat.{ℕ, ◌-◌}
use native.Mathlib.Omega.{arith}
use mathlib.Core.Path.{refl, ap, ◌∙◌}
use Rattle.card.specs.Bytes.{byte_of}
use Rattle.card.specs.Block.{crc_at}
use Rattle.table.proofs.Over.{written_none, written-up, written_all}
use Rattle.card.proofs.write.put_crc.Goals as goal

pub loop-k-init : goal.loop-k-init
loop-k-init c = written_none (omega arith)

pub loop-k-preserved : goal.loop-k-preserved
loop-k-preserved c =
    written-up c.loop-k.invariant (omega arith) (omega arith) refl
    (c.byte_of.ensures ∙ ap (λ (x : ℕ). byte_of x (c.loop-k.k - crc_at)) c.crc_of-crc.ensures)

pub returns : goal.returns
returns c = written_all c.loop-k.invariant (omega arith)
