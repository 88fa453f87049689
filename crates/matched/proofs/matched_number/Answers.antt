-- `matched::matched_number` meets its contract, by the same tests as `matched_bytes`.
use mathlib.Core.Path.{sym, ◌∙◌}
use Rattle.matched.proofs.Laws.{from_block, from_tail, from-neither}
use Rattle.matched.proofs.matched_number.Goals as goal

pub returns-then-in_block : goal.returns-then-in_block
returns-then-in_block c =
    let a = c.args in
    (from_block a.tail.now a.block.now a.offset a.start a.end (sym c.in_block.ensures ∙ c.if-in_block.true)).1

pub returns-then-in_tail : goal.returns-then-in_tail
returns-then-in_tail c =
    let a = c.args in
    (from_tail a.tail.now a.block.now a.offset a.start a.end (sym c.in_block.ensures ∙ c.if-in_block.false) (sym c.in_tail.ensures ∙ c.if-in_tail.true)).1

pub returns : goal.returns
returns c =
    let a = c.args in
    (from-neither a.tail.now a.block.now a.offset a.start a.end (sym c.in_block.ensures ∙ c.if-in_block.false) (sym c.in_tail.ensures ∙ c.if-in_tail.false)).1
