-- How the plain matcher works: marks on the written-out form (Marks), the gaps of a log (Gaps), the
-- parts that take bytes (Parts). Invariants has what the functions promise one another.
pub mod Marks
pub mod Gaps
pub mod Parts
pub mod Invariants
