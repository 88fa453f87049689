-- `top` meets its contract.
use borrow.Author.Tests.{eq-eqb, ne_eqb}
use Rattle.marks.proofs.byte.top.Goals as goal

pub returns-then-rows-eq0 : goal.returns-then-rows-eq0
returns-then-rows-eq0 c =
    let c-if1 = c.if-rows-eq0 in
    rw (eq-eqb _ _ c-if1.true)

pub returns : goal.returns
returns c =
    let c-if1 = c.if-rows-eq0 in
    let c-word = c.word in
    rw (ne_eqb _ _ c-if1.false) c-word.ensures
