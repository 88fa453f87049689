-- What the plain matcher answers (Answer). How it is worked out: a log byte by byte (Run).
-- Invariants has what the private functions promise one another.
pub mod Run
pub mod Answer
pub mod Invariants
