-- The laws of the builder: Words (rows of four words), Pieces (fragments by their parts), Steps
-- (what the walk over the nodes builds), Padded (the rows as they are handed out, and the parts),
-- Unasserted (a tree without assertions has the same parts in every world), Shifted (sets numbered
-- from further on), Moving (what the loops that copy make), Standing (a part that is built, and its
-- copies).
pub mod Words
pub mod Pieces
pub mod Steps
pub mod Padded
pub mod Unasserted
pub mod Shifted
pub mod Moving
pub mod Standing
