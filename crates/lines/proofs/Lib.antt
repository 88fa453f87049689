-- `Laws` and `Buffers` have what callers cite; the others have what the proofs of the functions
-- share.
pub mod Suffixes
pub mod Reading
pub mod Fields
pub mod Decimals
pub mod Laws
pub mod Placing
pub mod Buffers
