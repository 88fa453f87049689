-- The reasons to refuse a call, by number.
pub mod Refusal
