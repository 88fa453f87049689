-- The laws of the reader: Base (small laws that the others share), Lexemes and Sets (what a token
-- can be, what an item takes), Steps (the walk, token by token), Keys and Returns (what a match arm
-- knows, what each return owes), Whole (the whole reading). And the theorems: Answers (what every
-- reading gives), Lowest, Rows and Accepted (refused by the lowest number that has a reason,
-- accepted exactly if none has).
pub mod Base
pub mod Lexemes
pub mod Sets
pub mod Steps
pub mod Keys
pub mod Returns
pub mod Whole
pub mod Answers
pub mod Lowest
pub mod Rows
pub mod Standing
pub mod Accepted
