-- `tokens::quantifier::bounded_form` meets its contract: its test is the definition's.
use native.Mathlib.Omega.{arith}
use Rattle.tokens.specs.Quantifier.{bounded}
use Rattle.tokens.proofs.Forms.{bounds-rise}
use Rattle.tokens.proofs.quantifier.bounded_form.Goals as goal

pub overflow_sub-hi : goal.overflow_sub-hi
overflow_sub-hi c =
    let args = c.args in
    omega (arith, bounds-rise args.lo args.hi c.if-lo-hi.true)

pub returns-then-lo-hi : goal.returns-then-lo-hi
unfolding bounded
returns-then-lo-hi c = rw c.if-lo-hi.true c.sound_form.ensures

pub returns : goal.returns
unfolding bounded
returns c = rw c.if-lo-hi.false c.refused_form.ensures
