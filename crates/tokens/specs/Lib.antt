-- What one token is, from the bytes at its place on, in the order of the rules: options,
-- quantifiers, tokens.
pub mod Lexeme
pub mod Option
pub mod Quantifier
pub mod Token
pub mod Answer
