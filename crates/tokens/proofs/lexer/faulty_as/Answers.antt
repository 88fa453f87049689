-- `tokens::lexer::faulty_as` meets its contract: by the token.
use borrow.Enum.Refused.{opened}
use Rattle.std.proofs.Common.{◌∙◌}
use Rattle.refusals.specs.Refusal.{number_of}
use Rattle.tokens.proofs.Tokens.{faulty-other}
use Rattle.tokens.proofs.lexer.faulty_as.Goals as goal

pub returns-in-Repeat : goal.returns-in-Repeat
returns-in-Repeat c = rw c.in-Repeat.is c.plain.ensures

pub returns-in_default : goal.returns-in_default
returns-in_default c = c.refused.ensures ∙ faulty-other (number_of c.args.refusal) c.args.t (opened c.in_default.in_default-own.keys2)
