-- Following a second table: Follow (a byte by an entry), Calls (a scan that is given one), Starts
-- (both on a stream with starts).
pub mod Follow
pub mod Calls
pub mod Starts
