-- `tokens::quantifier::open_form` meets its contract: its test is the definition's.
use borrow.Author.Tests.{lt-ltb, le-ltb}
use Rattle.atoms.specs.Number.{cap}
use Rattle.tokens.specs.Quantifier.{open_ended}
use Rattle.tokens.proofs.quantifier.open_form.Goals as goal

pub returns-then-lo-lt-CAP : goal.returns-then-lo-lt-CAP
unfolding open_ended
returns-then-lo-lt-CAP c = rw (lt-ltb _ cap c.if-lo-lt-CAP.true) c.sound_form.ensures

pub returns : goal.returns
unfolding open_ended
returns c = rw (le-ltb _ cap c.if-lo-lt-CAP.false) c.refused_form.ensures
