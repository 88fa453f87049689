-- Character classes, from the bytes at their place on: Name (classes by name), Class (members,
-- ranges, the whole class). Invariants is for the private functions.
pub mod Name
pub mod Class
pub mod Answer
pub mod Invariants
