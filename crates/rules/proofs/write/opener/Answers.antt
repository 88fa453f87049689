-- `rules::write::opener` meets its contract: the takers of the byte meet the first positions inside
-- a stream, or not.
use mathlib.Core.Path.{sym, ◌∙◌}
use mathlib.Core.Bool.{true, false}
use Rattle.rules.proofs.Steps.{opener-is}
use Rattle.rules.proofs.write.opener.Goals as goal

pub returns-then-is_empty : goal.returns-then-is_empty
returns-then-is_empty c =
    let a = c.args in
    opener-is a.words.now c.row-takers.result a.first c.intersection.result a.x c.row-takers.ensures c.requires.0 c.intersection.ensures true (sym c.is_empty.ensures ∙ c.if-is_empty.true)

pub returns-else-is_empty : goal.returns-else-is_empty
returns-else-is_empty c =
    let a = c.args in
    opener-is a.words.now c.row-takers.result a.first c.intersection.result a.x c.row-takers.ensures c.requires.0 c.intersection.ensures false (sym c.is_empty.ensures ∙ c.if-is_empty.false)
