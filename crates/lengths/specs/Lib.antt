-- Which positions have a match that is long enough: Long. Invariants is for the private functions.
pub mod Long
pub mod Invariants
