-- The laws of a pass over bytes: Ending (where it begins and ends).
pub mod Ending
