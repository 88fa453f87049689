-- `watcher_c::watcher_empty` meets its contract: number and words are those of emptying.
use Rattle.std.proofs.Common.{◌∙◌}
use Rattle.watcher_c.proofs.watcher_empty.Goals as goal

pub returns : goal.returns
returns c = record { answer = c.code.ensures ∙ c.empty.ensures.0; table = c.empty.ensures.1 }
