-- `stream::fresh_state` meets its contract: its live set and what it holds are the empty set.
use Rattle.kinds.specs.declared.Side.TheVariants.{Other}
use Rattle.stream.proofs.fresh_state.Goals as goal

pub returns : goal.returns
returns c =
    let a = c.args in
    λ i. record { live = c.empty-live.ensures i; held = c.empty-held.ensures i; reported = 0; pending = 0; last = Other; taken = 0; rules = a.rules; positions = a.positions; closed = a.closed }
