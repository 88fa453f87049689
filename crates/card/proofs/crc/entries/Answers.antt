-- `card::crc::entries` meets its contract: the test of `ruled` is computed over the whole table,
-- and the law carries it to each entry.
use mathlib.Core.Path.{refl}
use Rattle.sets.specs.Set.{any}
use Rattle.card.specs.Crc.{crc_bit, crc_bits}
use Rattle.card.proofs.Checksum.{ruled}
use Rattle.card.proofs.crc.entries.Goals as goal

pub returns : goal.returns
unfolding any crc_bit crc_bits
returns c = ruled _ refl
