-- `watcher::watch::read_block` meets its contract: what is read lies within the part that was lent
-- for it.
use mathlib.Core.Path.{sym}
use lib.Seq.{length-take-le}
use Rattle.lines.proofs.Laws.{askable-room}
use Rattle.watcher.proofs.watch.read_block.Goals as goal

pub slice_bounds-read_some-end : goal.slice_bounds-read_some-end
slice_bounds-read_some-end c = rw c.askable-most.ensures (askable-room _ _)

pub slice_bounds-read_some-end-2 : goal.slice_bounds-read_some-end-2
slice_bounds-read_some-end-2 c = sym (length-take-le _ _ (rw c.askable-most.ensures (askable-room _ _)))
