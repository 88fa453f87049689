-- What the calls on a stream give: Byte (one byte, and the runs of reports), Valid (when a state
-- fits a table), Calls (the four calls). Invariants is for the private functions.
pub mod Byte
pub mod Valid
pub mod Calls
pub mod Invariants
