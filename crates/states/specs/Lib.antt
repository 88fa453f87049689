-- States as words that the caller owns: State (which words a state has, and which state words are),
-- Call (what a call on a state in words gives and leaves).
pub mod State
pub mod Call
