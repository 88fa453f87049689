-- The tests in numbers, what they give, and what is shown.
pub mod Laws
