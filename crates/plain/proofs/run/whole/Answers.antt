-- `whole` meets its contract: the rule is written out, and then runs.
use Rattle.plain.proofs.Runs.{asked-runs}
use Rattle.plain.proofs.run.whole.Goals as goal

pub all-requires : goal.all-requires
all-requires c =
    asked-runs c.requires (c.write_rule-rows.ensures.plays c.requires.room)
