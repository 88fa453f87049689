-- What one byte does: Step (the live set after it, the rules that end there). Walk is how the live
-- positions are asked; Invariants is for the private functions.
pub mod Step
pub mod Walk
pub mod Invariants
