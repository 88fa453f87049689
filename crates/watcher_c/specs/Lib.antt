-- What the functions for C give: each function's answer and what it leaves in the lent words.
pub mod Interface
