-- The laws of the calls on a stream with starts: Bounds (numbers that fit), Accepting (when a call
-- is accepted), Lists (the four lent lists), Runs (a run of reports, and two), Carrying (the starts
-- along a byte), Counting and Delivering (the reports of a byte), Taking (a byte that is offered,
-- and the loop), Passing (bytes that are passed over), Closing (a closing, and the answers), Same
-- (the same pairs at the same moments as a stream), Without (where no rule needs a start), Ordered
-- (starts stay in order), Results (what calls give, and that valid states stay valid).
pub mod Bounds
pub mod Accepting
pub mod Lists
pub mod Runs
pub mod Carrying
pub mod Counting
pub mod Delivering
pub mod Taking
pub mod Passing
pub mod Closing
pub mod Same
pub mod Without
pub mod Ordered
pub mod Results
