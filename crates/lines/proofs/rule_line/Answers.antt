-- `lines::rule_line` meets its contract: the two fields, the second where the first one's space
-- ends, decide as the definition does.
use Rattle.lines.proofs.Fields.{no-id, no-flags, both}
use Rattle.lines.proofs.rule_line.Goals as goal

pub returns-in_err-id : goal.returns-in_err-id
returns-in_err-id c = rw c.from_residual.ensures (no-id _ c.in_err-id.ensures)

pub returns-in_err-flags : goal.returns-in_err-flags
returns-in_err-flags c = rw c.from_residual-in_err-flags.ensures (no-flags _ c.in_ok-id.id c.in_ok-id.ensures c.in_err-flags.ensures)

pub returns : goal.returns
returns c = both _ c.in_ok-id.id c.in_ok-id.ensures c.in_ok-flags.flags c.in_ok-flags.ensures
