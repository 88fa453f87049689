-- The laws of an addition, from words to rules: Blocks (what the library's methods write and find),
-- Rows (sets in words), Flags (the flags of a rule), Steps (the private writers),
-- Place (the new rule's place), GapSets (the sets of the gaps, as they are written), Numbers (one
-- for each rule), Windows (the table with the windows of one more, and no rule yet), Regions, Made,
-- Kept, Views (the table with one rule more: its words, how they are made, that they pass the test,
-- their automaton), Worlds (what the numbers of the gaps mean), Parts (the builder's sets), Sorted
-- and Encodes (rules by rising id, and the automaton that they are), Lengths (their smallest
-- lengths), Readings (what an accepted pattern is), Checks (what an accepted addition has passed),
-- Additions (lists of additions), Answer (the answer of one), Local (words beyond the first 16,384
-- count for nothing).
pub mod Blocks
pub mod Rows
pub mod Flags
pub mod Steps
pub mod Place
pub mod GapSets
pub mod Numbers
pub mod Windows
pub mod Regions
pub mod Made
pub mod Kept
pub mod Views
pub mod Worlds
pub mod Parts
pub mod Sorted
pub mod Encodes
pub mod Lengths
pub mod Readings
pub mod Checks
pub mod Additions
pub mod Answer
pub mod Local
