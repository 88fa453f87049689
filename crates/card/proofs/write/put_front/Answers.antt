-- `card::write::put_front` meets its contract: the loop's invariant is that the bytes below k are
-- written.
use native.Mathlib.Omega.{arith}
use mathlib.Core.Path.{refl}
use Rattle.table.proofs.Over.{written_none, written-up, written_all}
use Rattle.card.proofs.write.put_front.Goals as goal

pub loop-k-init : goal.loop-k-init
loop-k-init c = written_none (omega arith)

pub loop-k-preserved : goal.loop-k-preserved
loop-k-preserved c = written-up c.loop-k.invariant (omega arith) (omega arith) refl c.front_byte.ensures

pub returns : goal.returns
returns c = written_all c.loop-k.invariant (omega arith)
