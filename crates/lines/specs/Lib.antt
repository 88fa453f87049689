-- What the program's text functions give; `Invariants` has what private functions keep.
pub mod Lines
pub mod Numbers
pub mod Output
pub mod Invariants
