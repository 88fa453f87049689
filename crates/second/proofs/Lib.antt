-- The laws of the second table: Searching (the first of some numbers, the same words), Found (the
-- entries), Words (the words of entries, read back), Gathering (one byte of one entry), Gathered
-- (all of them), Laying (the parts of a build), Passing (the test).
pub mod Searching
pub mod Found
pub mod Words
pub mod Gathering
pub mod Gathered
pub mod Laying
pub mod Passing
