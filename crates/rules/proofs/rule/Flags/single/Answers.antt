-- `rules::rule::Flags::single` meets its contract: a flag's binary digit is read by a mask.
use Rattle.rules.proofs.Flags.{single-flag}
use Rattle.rules.proofs.rule.Flags.single.Goals as goal

pub returns : goal.returns
returns c = single-flag c.args.self.bits
