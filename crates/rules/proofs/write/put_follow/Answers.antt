-- `rules::write::put_follow` meets its contract: the old rows are masked, and the new ones copied
-- after them.
use mathlib.Core.Path.{ap, ◌∙◌}
use Prim.Native.Nat.{◌+◌, ◌*◌}
use Rattle.table.specs.Invariants.{copied}
use Rattle.rules.specs.Invariants.{follow_put}
use Rattle.rules.proofs.write.put_follow.Goals as goal

pub returns : goal.returns
unfolding follow_put
returns c =
    let a = c.args in
    c.put_words.ensures ∙ ap (copied (a.at + a.span.n * 4) (a.span.more * 4) a.follow.now) c.mask_rows.ensures
