-- `Lengths` has what callers cite; the others have what the proofs of the functions share.
pub mod Letters
pub mod Forms
pub mod Lengths
pub mod Lexemes
pub mod Tokens
