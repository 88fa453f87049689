-- The laws that every caller may cite: of a word's binary digits, and of sets.
pub mod Bits
pub mod Laws
pub mod Smallest
