-- What reading a pattern gives, in the order Walk (the reading itself), Read (the answer); how
-- words hold a tree is said in the crate `nodes`. Windows has what is given beside the pattern,
-- Reasons each reason to refuse as a predicate of its own, Invariants what the private functions
-- promise one another.
pub mod Walk
pub mod Read
pub mod Windows
pub mod Reasons
pub mod Invariants
