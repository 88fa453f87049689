-- Where a pass over bytes begins and ends: Pass. Invariants is for the private functions.
pub mod Pass
pub mod Invariants
