-- The second table: Layout (its words), Entries (which live sets it has, and what each word is),
-- Second (its test, and what a build leaves). Invariants is for the private functions.
pub mod Layout
pub mod Entries
pub mod Second
pub mod Invariants
