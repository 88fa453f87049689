-- The laws that every caller may cite: Over (words given by their index), Rows (sets in words),
-- Test (what passing the test gives), Ids (the test of the ids), Emptying, Lates (the set of late
-- positions), Local (only the first 16,384 words count), GapBounds (a gap's number is one that the
-- sets go by).
pub mod Over
pub mod Rows
pub mod Test
pub mod Ids
pub mod Emptying
pub mod Lates
pub mod Local
pub mod Members
pub mod GapBounds
