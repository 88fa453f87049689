-- What stands for one byte or for a kind of bytes, from the bytes at its place on, in the order of
-- the rules: faults, raw control bytes, numbers, escapes, quotes. Answer says which of
-- these each answer of a function is; Invariants is for the private functions.
pub mod Fault
pub mod Raw
pub mod Number
pub mod Escape
pub mod Quote
pub mod Answer
pub mod Invariants
