-- How words hold a syntax tree (Nodes), and what a word says as a node (Node). Invariants has what
-- the private functions promise one another.
pub mod Nodes
pub mod Node
pub mod Invariants
