-- `rows` meets its contract.
use borrow.Author.Tests.{eq-eqb, ne_eqb}
use Rattle.marks.proofs.write_out.rows.Goals as goal

pub returns-then-size-eq0 : goal.returns-then-size-eq0
returns-then-size-eq0 c =
    let c-if1 = c.if-size-eq0 in
    rw (eq-eqb _ _ c-if1.true)

pub returns-else-size-eq0 : goal.returns-else-size-eq0
returns-else-size-eq0 c =
    let c-if1 = c.if-size-eq0 in
    rw (ne_eqb _ _ c-if1.false)
