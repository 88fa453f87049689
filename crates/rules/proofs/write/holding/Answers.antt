-- `rules::write::holding` meets its contract: the table is the defined list.
use mathlib.Core.Path.{refl}
use Rattle.rules.proofs.write.holding.Goals as goal

pub returns : goal.returns
returns c = refl
