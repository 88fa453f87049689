-- What the contracts cite: Kind (the kinds of a byte), Case (the two cases of a letter), Side (a
-- byte beside a gap). Invariants is for the private functions.
pub mod Kind
pub mod Case
pub mod Side
pub mod Invariants
