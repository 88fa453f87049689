-- `rules::rule::Flags::known` meets its contract: no flag is dropped.
use mathlib.Core.Path.{sym}
use mathlib.Core.Bool.{not-not}
use lib.Bits.{bit_and}
use lib.Dec.{eqb}
use Rattle.table.specs.Table.{known_flags}
use Rattle.rules.specs.Add.{unknown_flag}
use Rattle.rules.proofs.rule.Flags.known.Goals as goal

pub returns : goal.returns
unfolding unknown_flag
returns c = sym (not-not (eqb (bit_and c.args.self.bits known_flags) c.args.self.bits))
