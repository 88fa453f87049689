-- The worked cases of the reader.
pub mod Cases
