-- `tokens::lexer::own_fault` meets its contract: by the token.
use borrow.Enum.Refused.{opened}
use Rattle.std.proofs.Common.{◌∙◌, ap, sym}
use Rattle.atoms.specs.Answer.{fault}
use Rattle.tokens.specs.Answer.{own_fault}
use Rattle.tokens.proofs.Tokens.{err-fault, no-fault}
use Rattle.tokens.proofs.lexer.own_fault.Goals as goal

pub returns-in-Repeat : goal.returns-in-Repeat
returns-in-Repeat c = ap fault c.err.ensures.value ∙ err-fault c.in-Repeat.copies ∙ ap own_fault (sym c.in-Repeat.is)

pub returns-in_default : goal.returns-in_default
returns-in_default c = no-fault c.args.token (opened c.in_default.in_default-own.keys2)
