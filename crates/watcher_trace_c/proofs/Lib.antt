-- Stored: a state in words is the state that was put there.
pub mod Stored
