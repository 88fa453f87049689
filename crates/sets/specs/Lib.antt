-- What the contracts cite: Set (membership, and what each operation makes), Walk (a word's digits one
-- by one).
pub mod Set
pub mod Walk
