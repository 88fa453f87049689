-- `classes::names::atom_of` meets its contract: the kind that is read is the definition's, caseless
-- or not.
use mathlib.Core.Path.{◌≡◌, ◌∙◌}
use mathlib.Core.Bool.{true, false}
use Rattle.classes.specs.Name.{named}
use Rattle.classes.proofs.names.atom_of.Goals as goal
use Rattle.classes.proofs.names.atom_of.Goals.{then-caseless, else-caseless}

pub returns-then-negated : goal.returns-then-negated
unfolding named
returns-then-negated c = elim c.if-caseless.branch [
  | then-caseless w ↦ let on : c.args.caseless ≡ true = w.if-caseless.true in rw (w.read-is ∙ w.uncased-read.ensures, on, c.if-negated.true)
  | else-caseless w ↦ let off : c.args.caseless ≡ false = w.if-caseless.false in rw (w.read-is, off, c.if-negated.true)
]

pub returns : goal.returns
unfolding named
returns c = elim c.if-caseless.branch [
  | then-caseless w ↦ let on : c.args.caseless ≡ true = w.if-caseless.true in rw (w.read-is ∙ w.uncased-read.ensures, on, c.if-negated.false)
  | else-caseless w ↦ let off : c.args.caseless ≡ false = w.if-caseless.false in rw (w.read-is, off, c.if-negated.false)
]
