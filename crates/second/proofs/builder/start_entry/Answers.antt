-- `second::builder::start_entry` meets its contract: nothing is live or held.
use Rattle.kinds.specs.declared.Side.TheVariants.{Other}
use Rattle.second.proofs.builder.start_entry.Goals as goal

pub returns : goal.returns
returns c =
    λ i. record { live = c.empty.ensures i; held = c.empty-2.ensures i; pending = 0; last = Other }
