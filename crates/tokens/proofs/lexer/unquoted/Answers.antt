-- `tokens::lexer::unquoted` meets its contract: the byte is one of eight with a token of their own,
-- or another.
use mathlib.Core.Path.{sym, ◌∙◌}
use Rattle.tokens.specs.Token.{unquoted_of}
use Rattle.tokens.proofs.Lexemes.{lexeme-other}
use Rattle.tokens.proofs.lexer.unquoted.Goals as goal

pub quantifier_or_byte-requires : goal.quantifier_or_byte-requires
quantifier_or_byte-requires c = c.requires

pub returns-in-92 : goal.returns-in-92
unfolding unquoted_of
returns-in-92 c = rw (c.in-92.is, ← c.escape_at.ensures) c.escaped.ensures

pub returns-in-91 : goal.returns-in-91
unfolding unquoted_of
returns-in-91 c = rw c.in-91.is c.plain.ensures

pub returns-in-40 : goal.returns-in-40
unfolding unquoted_of
returns-in-40 c = rw c.in-40.is c.opening_at.ensures

pub returns-in-41 : goal.returns-in-41
unfolding unquoted_of
returns-in-41 c = rw c.in-41.is c.plain-in-41.ensures

pub returns-in-124 : goal.returns-in-124
unfolding unquoted_of
returns-in-124 c = rw c.in-124.is c.plain-in-124.ensures

pub returns-in-46 : goal.returns-in-46
unfolding unquoted_of
returns-in-46 c = rw c.in-46.is c.plain-in-46.ensures

pub returns-in-94 : goal.returns-in-94
unfolding unquoted_of
returns-in-94 c = rw c.in-94.is c.plain-in-94.ensures

pub returns-in-36 : goal.returns-in-36
unfolding unquoted_of
returns-in-36 c = rw c.in-36.is c.plain-in-36.ensures

pub returns-in_default : goal.returns-in_default
returns-in_default c =
    let args = c.args in
    let s = args.s.now in
    let at = args.at in
    let other = c.in_default.in_default-own.rest in
    c.quantifier_or_byte.ensures
    ∙ sym
    (lexeme-other s at args.options c.requires other.0.0.0.0.0.0.0.1 other.0.0.0.0.0.0.1
    other.0.0.0.0.0.1
    other.0.0.0.0.1 other.0.0.0.1 other.0.0.1 other.0.1 other.1)
