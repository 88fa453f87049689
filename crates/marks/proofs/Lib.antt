-- Least (least numbers of a kind), Moving (which marks a move leaves alone), Meaning (what the
-- marks are), Skips (forms without positions), Doors (a form by its part), Laid (parts in rows),
-- Made (forms written out), Passes (a gap over the rows), Worlds (the gaps of a log).
pub mod Least
pub mod Moving
pub mod Meaning
pub mod Skips
pub mod Doors
pub mod Laid
pub mod Made
pub mod Passes
pub mod Worlds
