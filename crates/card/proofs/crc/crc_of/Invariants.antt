-- `card::crc::crc_of` meets its contract: a turn is the bit-by-bit step of a byte, by the table's
-- rule.
use Prim.Native.Nat.{◌-◌}
use Rattle.card.proofs.Checksum.{Passed}
use Rattle.card.proofs.crc.crc_of.Given as goal

abbrev pub invariant-loop-i : goal.invariant-loop-i
invariant-loop-i l = Passed l.bytes l.n l.state l.i
