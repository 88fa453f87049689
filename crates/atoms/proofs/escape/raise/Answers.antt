-- `atoms::escape::raise` meets its contract: it asks whether the byte is a lower-case letter.
use Rattle.std.proofs.Common.{◌∙◌, sym}
use Rattle.atoms.specs.Escape.{raised}
use Rattle.atoms.proofs.escape.raise.Goals as goal

pub returns-then-is : goal.returns-then-is
unfolding raised
returns-then-is c = rw (sym c.is.ensures ∙ c.if-is.true) c.other_case.ensures

pub returns : goal.returns
unfolding raised
returns c = rw (sym c.is.ensures ∙ c.if-is.false)
