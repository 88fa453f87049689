-- The laws of following a second table: Alike (what of a state counts for an entry), Following (a
-- second table that is right changes nothing), Staying and StayingStarts (after any that passes a
-- state is still valid), Starting (nothing changes on a stream with starts, if rules that need one
-- have no part), Built (a built one is so, and passes its test), Equal and EqualStarts (so a scan
-- that is given one gives what a scan without it gives).
pub mod Alike
pub mod Following
pub mod Staying
pub mod StayingStarts
pub mod Starting
pub mod Built
pub mod Equal
pub mod EqualStarts
