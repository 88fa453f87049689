-- `rules::rule::Flags::leftmost` meets its contract: a flag's binary digit is read by a mask.
use Rattle.rules.proofs.Flags.{leftmost-flag}
use Rattle.rules.proofs.rule.Flags.leftmost.Goals as goal

pub returns : goal.returns
returns c = leftmost-flag c.args.self.bits
