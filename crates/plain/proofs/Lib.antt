-- Windows, Reports (the lent lists), Runs (byte by byte), Logs (what the starts mean), Listed (the
-- ordered list), Answers.
pub mod Windows
pub mod Reports
pub mod Runs
pub mod Logs
pub mod Listed
pub mod Answers
