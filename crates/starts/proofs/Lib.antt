-- The laws of the tests of starts: Bounds (numbers that fit), Checking (sixty-four at a time, and a
-- set's).
pub mod Bounds
pub mod Checking
