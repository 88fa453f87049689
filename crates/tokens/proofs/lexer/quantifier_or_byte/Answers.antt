-- `tokens::lexer::quantifier_or_byte` meets its contract: a quantifier stands at the place or not.
-- What it takes stands in the pattern, so no sum wraps.
use Rattle.std.proofs.Common.{◌∙◌, sym, arith, Some}
use Rattle.tokens.specs.Answer.{quantifier}
use Rattle.tokens.proofs.Lexemes.{form-fits, quantifier-is}
use Rattle.tokens.proofs.lexer.quantifier_or_byte.Goals as goal

pub overflow_add-at : goal.overflow_add-at
overflow_add-at c = omega (arith, form-fits c.args.s.now c.args.at (quantifier (Some c.in-Some.q)) c.in-Some.ensures)

pub marked_form-requires : goal.marked_form-requires
marked_form-requires c = omega (arith, form-fits c.args.s.now c.args.at (quantifier (Some c.in-Some.q)) c.in-Some.ensures)

pub returns-in-Some : goal.returns-in-Some
returns-in-Some c =
    c.marked_form.ensures
    ∙ sym (rw (← c.in-Some.ensures) (quantifier-is c.args.s.now c.args.at (quantifier (Some c.in-Some.q)) c.in-Some.ensures c.peek.result c.peek.ensures))

pub returns-in-None : goal.returns-in-None
returns-in-None c = rw (← c.in-None.ensures) c.plain.ensures
