-- What an addition gives: Gaps (the parts of a rule at each gap), Words (the table with one rule
-- more), Add (the answer), Additions (lists of additions), Encoded (the words that these leave).
-- Apart from these, Invariants has what the private functions promise one another.
pub mod Gaps
pub mod Words
pub mod Add
pub mod Additions
pub mod Encoded
pub mod Invariants
