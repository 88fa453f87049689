-- `tokens::option::comment` meets its contract: a `)` stands after the opening, or none.
use Rattle.std.proofs.Common.{◌∙◌, ap, sym, arith, List, ℕ, length, drop, ◌+◌}
use Rattle.tokens.specs.Option.{plain, comment_of}
use Rattle.tokens.specs.Lexeme.{Unclosed}
use Rattle.tokens.proofs.Letters.{close-inside, comment-closed, comment-open}
use Rattle.tokens.proofs.option.comment.Goals as goal

pub overflow_add-end : goal.overflow_add-end
overflow_add-end c = omega (arith, (close-inside c.rest-text.result.now c.in-Some.end (sym c.in-Some.ensures)).1)

pub returns-in-Some : goal.returns-in-Some
returns-in-Some c =
    c.plain.ensures
    ∙ sym (ap (comment_of c.args.options) (sym c.rest-text.ensures) ∙ comment-closed c.rest-text.result.now c.args.options c.in-Some.end (sym c.in-Some.ensures))

pub returns-in-None : goal.returns-in-None
returns-in-None c =
    c.plain-in-None.ensures
    ∙ sym (ap (comment_of c.args.options) (sym c.rest-text.ensures) ∙ comment-open c.rest-text.result.now c.args.options (sym c.in-None.ensures))
