-- `table::word` meets its contract: past the end a list reads as 0.
use Rattle.std.proofs.Common.{sym, refl}
use lib.ListN.{get_or-eq_default}
use Rattle.table.proofs.word.Goals as goal

pub returns-then-at-words : goal.returns-then-at-words
returns-then-at-words c = refl

pub returns-else-at-words : goal.returns-else-at-words
returns-else-at-words c =
    let c-start = c.before in
    let c-if1 = c.if-at-words in
    sym (get_or-eq_default c-start.args.words.now 0 c-if1.false)
