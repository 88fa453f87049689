-- `both` meets its contract: the first report leaves room for the second.
use native.Mathlib.Omega.{arith}
use Rattle.plain.proofs.Reports.{second-room, both-more}
use Rattle.plain.proofs.run.Wanted.both.Goals as goal

pub report-requires : goal.report-requires
report-requires c =
    second-room c.args.second c.args.y (omega arith) c.requires.0 c.report-c.ensures

pub returns : goal.returns
returns c =
    both-more c.args.second c.args.y (omega arith) c.requires.0 c.report-c.ensures c.report.ensures
