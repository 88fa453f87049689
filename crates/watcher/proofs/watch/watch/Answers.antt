-- `watcher::watch::watch` meets its contract: the way that watches without starts is taken only
-- where no rule needs one.
use native.Mathlib.Omega.{arith}
use Rattle.watcher.proofs.Watching.{startless}
use Rattle.watcher.proofs.watch.watch.Goals as goal

pub watch_input-requires : goal.watch_input-requires
watch_input-requires c =
    let t = c.args.words.now in
    (c.requires, startless t c.requires c.needs_starts.result c.needs_starts.ensures c.if-needs_starts.false, (omega arith, omega arith))
