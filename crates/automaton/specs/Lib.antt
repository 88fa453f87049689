-- The parts of a rule's automaton, and apart from them what the private functions promise one
-- another.
pub mod Parts
pub mod Invariants
