-- The laws of one byte's work: Bounds (numbers that fit), TableSets (sets and rules in a table's
-- words), Asked, Ahead, Turned, Walked and Owned (the walk over the live set, and over the positions
-- that end a match), Sifting (windows), Carrying (starts), Steps (the live set after a byte), Late
-- (the late positions suffice).
pub mod Bounds
pub mod TableSets
pub mod Asked
pub mod Ahead
pub mod Steps
pub mod Turned
pub mod Walked
pub mod Carrying
pub mod Owned
pub mod Late
pub mod Sifting
