-- `lines::output::refused_text` meets its contract: the parts of the line are put one after the
-- other, and there is room for each.
use native.Mathlib.Omega.{arith}
use Rattle.lines.specs.Output.{refused_line}
use Rattle.lines.proofs.Laws.{most-digits}
use Rattle.lines.proofs.Placing.{begun, more}
use Rattle.lines.proofs.output.refused_text.Goals as goal

pub returns : goal.returns
unfolding refused_line
returns c =
    let h0 = begun _ c.blank.ensures in
    let h1 = more h0 _ _ 5 c.with_bytes-rule.ensures (omega arith) (omega arith) in
    let h2 = more h1 _ _ 20 c.with_number-line.ensures (most-digits _) (omega arith) in
    let h3 = more h2 _ _ 9 c.with_bytes-refused.ensures (omega arith) (omega arith) in
    let h4 = more h3 _ _ 20 c.with_number-number.ensures (most-digits _) (omega arith) in
    let h5 = more h4 _ _ 4 c.with_bytes-at.ensures (omega arith) (omega arith) in
    let h6 = more h5 _ _ 20 c.with_number-place.ensures (most-digits _) (omega arith) in
    let h7 = more h6 _ _ 1 c.with_bytes.ensures (omega arith) (omega arith) in
    h7.text
