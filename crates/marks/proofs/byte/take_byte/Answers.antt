-- `take_byte` meets its contract: a byte that the log has not, or rows that no rule has, are none
-- of a rule's.
use native.Mathlib.Omega.{arith}
use Rattle.marks.proofs.byte.take_byte.Goals as goal

pub returns-then-k-log : goal.returns-then-k-log
returns-then-k-log c = λ h. absurd (omega (arith, c.if-k-log.true, h.1))

pub returns-then-rows-ge-ROWS : goal.returns-then-rows-ge-ROWS
returns-then-rows-ge-ROWS c = λ h. absurd (omega (arith, c.if-rows-ge-ROWS.true, h.0.low))

pub pass-requires : goal.pass-requires
pass-requires c = (omega arith, omega arith)

pub returns : goal.returns
returns c = c.pass.ensures
