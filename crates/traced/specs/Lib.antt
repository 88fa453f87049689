-- What the calls on a stream with starts give: Byte (one byte, and closing), Valid (when a state
-- fits a table), Calls (the four calls). Invariants is for the private functions.
pub mod Byte
pub mod Valid
pub mod Calls
pub mod Invariants
