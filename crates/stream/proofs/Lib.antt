-- The laws of the calls on a stream: Bounds (numbers that fit), Lists (the lent lists), Machines
-- (some bytes, over any machine), Runs (one run of reports), TwoRuns (two, one after the other),
-- Blocks (some bytes of a stream), Counting (what of a state counts), Quiet (where nothing
-- happens), Taking (a byte that is offered), Turns (the scanning loop), Accepting (when a call is
-- accepted), Answers (what it gives), Parts (a scan in two parts), Results (what callers may count
-- on), Local (only the first 16,384 words count).
pub mod Bounds
pub mod Lists
pub mod Machines
pub mod Runs
pub mod TwoRuns
pub mod Blocks
pub mod Counting
pub mod Quiet
pub mod Taking
pub mod Turns
pub mod Accepting
pub mod Answers
pub mod Parts
pub mod Results
pub mod Local
