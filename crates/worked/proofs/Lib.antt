-- From words to values: Agreeing, Computing and Outcomes (calls followed by an automaton that
-- computes), Logs, Cases, Starts, Example.
pub mod Agreeing
pub mod Computing
pub mod Outcomes
pub mod Logs
pub mod Cases
pub mod Starts
pub mod Example
