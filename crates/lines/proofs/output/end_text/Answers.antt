-- `lines::output::end_text` meets its contract: the parts of the line are put one after the other,
-- and there is room for each.
use native.Mathlib.Omega.{arith}
use Rattle.lines.specs.Output.{end_line}
use Rattle.lines.proofs.Laws.{most-digits}
use Rattle.lines.proofs.Placing.{begun, more}
use Rattle.lines.proofs.output.end_text.Goals as goal

pub returns : goal.returns
unfolding end_line
returns c =
    let h0 = begun _ c.blank.ensures in
    let h1 = more h0 _ _ 4 c.with_bytes-end.ensures (omega arith) (omega arith) in
    let h2 = more h1 _ _ 20 c.with_number-taken.ensures (most-digits _) (omega arith) in
    let h3 = more h2 _ _ 1 c.with_bytes.ensures (omega arith) (omega arith) in
    h3.text
