-- Which bytes of a match a caller can be shown.
pub mod Matched
