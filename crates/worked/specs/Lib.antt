-- What is worked out: the worked cases of the rules (Cases), those of starts and smallest lengths
-- (Starts), one instance of demand 3 (Example).
pub mod Cases
pub mod Starts
pub mod Example
