-- `card::crc::crc_of` meets its contract: a turn is the bit-by-bit step of a byte, by the table's
-- rule.
use native.Mathlib.Omega.{arith}
use lib.ListN.{get_or}
use Rattle.card.proofs.Checksum.{by-table, passed_none, passed-one, passed-all}
use Rattle.card.proofs.crc.crc_of.Goals as goal

-- src/crc.rt:24:5
pub loop-i-init : goal.loop-i-init
loop-i-init c = passed_none c.args.bytes.now c.args.n c.requires

-- src/crc.rt:25:28
pub overflow_cast-at : goal.overflow_cast-at
overflow_cast-at c = omega (arith, c.type_inv.bytes c.loop-i.i)

-- src/crc.rt:24:5
pub loop-i-preserved : goal.loop-i-preserved
loop-i-preserved c =
    let x = c.args in
    let l = c.loop-i in
    passed-one x.bytes.now x.n l.state l.i _ l.invariant c.loop-i-test.true
    (by-table _ c.entries-table.ensures l.state (get_or x.bytes.now l.i 0) (omega (arith, c.type_inv.bytes l.i)))

-- src/crc.rt:17:1
pub returns : goal.returns
returns c =
    let x = c.args in
    passed-all x.bytes.now x.n c.loop-i.state c.loop-i.i c.loop-i.invariant c.loop-i-test.false
