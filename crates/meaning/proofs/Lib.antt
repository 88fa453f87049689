-- The theorems about the definitions of specs/, for the crates that build on them. Relations has
-- definitions that these theorems alone need.
pub mod Logic
pub mod Example
pub mod Relations
pub mod Written
pub mod Range
pub mod Shift
pub mod Worlds
pub mod Local
pub mod Step
pub mod Computed
pub mod Counted
pub mod Stream
pub mod Base
pub mod Decidable
pub mod Least
pub mod Enumerated
pub mod OneList
pub mod Alone
pub mod Named
pub mod Finite
pub mod Moments
pub mod Offsets
pub mod Starts
pub mod Reports
pub mod Ways
pub mod Busy
