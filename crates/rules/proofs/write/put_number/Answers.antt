-- `rules::write::put_number` meets its contract: the numbers from the place on go one up, and the
-- new one is written there.
use mathlib.Core.Path.{refl}
use native.Mathlib.Omega.{arith}
use Rattle.rules.proofs.Blocks.{up-moved, one-put}
use Rattle.rules.proofs.Steps.{number_is}
use Rattle.rules.proofs.write.put_number.Goals as goal

pub returns : goal.returns
returns c =
    let a = c.args in
    let moved = c.copy_within in
    number_is a.at a.rules a.k a.new a.words.now moved.new.self _
    (up-moved _ _ _ _ a.words.now moved.new.self refl (omega arith) moved.ensures.len moved.ensures.by_index)
    (one-put _ a.new moved.new.self (omega (arith, moved.ensures.len)))
