-- What the functions for C on a stream with starts give, and what they leave in the lent words.
pub mod Interface
