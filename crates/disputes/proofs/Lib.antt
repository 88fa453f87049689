-- The theorem (Plain).
pub mod Plain
