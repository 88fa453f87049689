-- `atoms::quote::is_mark` meets its contract: it asks what the definition asks.
use mathlib.Core.Path.{refl}
use Rattle.atoms.specs.Quote.{is_mark}
use Rattle.atoms.proofs.quote.is_mark.Goals as goal

pub returns : goal.returns
unfolding is_mark
returns c = refl
