-- A byte is of a kind where its kinds have the kind's bit.
use Rattle.std.proofs.Common.{ap₂, ◌∙◌}
use Rattle.kinds.proofs.Bits.{meets, meets-kind}
use Rattle.kinds.proofs.is.Goals as goal

pub returns : goal.returns
returns c = ap₂ meets c.kinds_of.ensures c.bit_of.ensures ∙ meets-kind c.args.k c.args.b
