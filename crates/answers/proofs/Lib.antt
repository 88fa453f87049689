-- The worked cases come out as they must, and the table of names is read as one rule says.
pub mod Cases
pub mod NameTable
