-- What the program's own functions give: `Lines` what a line of the rules file does, `Invariants`
-- what the reading and writing keeps.
pub mod Lines
pub mod Invariants
