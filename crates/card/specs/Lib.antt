-- The table on the card: numbers as bytes, the CRC, the blocks of a table, the two calls, what is
-- proved of them. Apart from these, Invariants has what private functions promise.
pub mod Bytes
pub mod Crc
pub mod Block
pub mod Calls
pub mod Theorems
pub mod Invariants
