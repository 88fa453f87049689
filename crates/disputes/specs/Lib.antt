-- What is promised: the plain matcher answers as table, scan and closing do (Plain).
pub mod Plain
