-- The laws of states in words: Words (what is read and written), Answers (what each return of a
-- function over such a state gives), Stored (a stored state is read back as the same state).
pub mod Words
pub mod Answers
pub mod Stored
