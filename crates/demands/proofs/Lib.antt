-- From words to meaning: Acceptance and Origins (which additions are accepted, and where a rule
-- comes from), Carried (what additions built), TwoRuns (what one moment reports), Endings (where
-- matches end), Tracked and Whole (a stream follows the meaning), Others and Lawful (lists of
-- calls), Bytewise, Short and Streams (streams without starts), Busy, Theorems; Ends, Allowances,
-- Demand1, Alone.
pub mod Acceptance
pub mod Origins
pub mod Carried
pub mod TwoRuns
pub mod Endings
pub mod Tracked
pub mod Starting
pub mod Whole
pub mod Bytewise
pub mod Others
pub mod Lawful
pub mod Short
pub mod Streams
pub mod Traced
pub mod Busy
pub mod Theorems
pub mod Ends
pub mod Allowances
pub mod Demand1
pub mod Alone
pub mod Alike
