-- What the proofs of the functions share, and what callers cite of bytes from a place on, of
-- numbers and of sizes.
pub mod Suffixes
pub mod Blanks
pub mod Digits
pub mod Raws
pub mod Escapes
pub mod Sizes
pub mod Gaps
