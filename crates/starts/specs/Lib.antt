-- When the starts of a state are in order: Order. Invariants is for the private functions.
pub mod Order
pub mod Invariants
