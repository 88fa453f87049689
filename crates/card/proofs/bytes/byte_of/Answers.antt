-- `card::bytes::byte_of` meets its contract: a shift by 8 j is a division by that power.
use mathlib.Core.Path.{refl}
use Rattle.card.proofs.bytes.byte_of.Goals as goal

pub returns : goal.returns
returns c = refl
