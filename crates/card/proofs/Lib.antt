-- Laws of the card: Xor (exclusive or), Checksum (the CRC by a table, and that one changed byte
-- changes it), Numbers (numbers and their bytes), Images (a table's blocks, and what writes them),
-- Blocks (what the test of a block gives), Answers (the two calls by their tests), Accepted (a
-- table's block passes, and what it leaves), Theorems (the statements of specs/Theorems.antt).
pub mod Xor
pub mod Checksum
pub mod Numbers
pub mod Images
pub mod Blocks
pub mod Answers
pub mod Accepted
pub mod Theorems
