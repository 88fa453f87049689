-- Base (small laws), Trees (trees in words), Counts (the two figures by a node's children), Forms
-- (a node and its written-out form by its word).
pub mod Base
pub mod Trees
pub mod Nodes
pub mod Counts
pub mod Forms
