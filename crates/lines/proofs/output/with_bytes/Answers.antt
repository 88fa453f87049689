-- `lines::output::with_bytes` meets its contract: the text is a buffer, in which the bytes are
-- placed.
use mathlib.Core.Path.{ap}
use Rattle.lines.specs.Invariants.{as_text, joined}
use Rattle.lines.proofs.output.with_bytes.Goals as goal

pub returns : goal.returns
unfolding joined
returns c = ap as_text c.place-size.ensures
