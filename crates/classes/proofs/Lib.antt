-- What the proofs of the functions share, and what callers cite of sizes and members. Keys has what
-- an arm of a match knows.
pub mod Keys
pub mod Sizes
pub mod Ranges
pub mod Spellings
pub mod Endings
