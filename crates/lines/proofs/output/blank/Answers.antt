-- `lines::output::blank` meets its contract by definition.
use mathlib.Core.Path.{refl}
use Rattle.lines.specs.Invariants.{text_of}
use Rattle.lines.proofs.output.blank.Goals as goal

pub returns : goal.returns
unfolding text_of
returns c = refl
