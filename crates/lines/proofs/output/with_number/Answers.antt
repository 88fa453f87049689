-- `lines::output::with_number` meets its contract: the first bytes of the decimal are its digits.
use mathlib.Core.Path.{sym, ap, ◌∙◌}
use lib.Seq.{length-take-le}
use Rattle.lines.specs.Invariants.{joined}
use Rattle.lines.proofs.Placing.{decimal-digits, decimal-within}
use Rattle.lines.proofs.output.with_number.Goals as goal

pub slice_bounds-digits-end : goal.slice_bounds-digits-end
slice_bounds-digits-end c = decimal-within _ _ c.decimal_of-decimal.ensures

pub slice_bounds-with_bytes-end : goal.slice_bounds-with_bytes-end
slice_bounds-with_bytes-end c = sym (length-take-le _ _ (decimal-within _ _ c.decimal_of-decimal.ensures))

pub returns : goal.returns
returns c = c.with_bytes.ensures ∙ ap (joined _) (decimal-digits _ _ c.decimal_of-decimal.ensures)
