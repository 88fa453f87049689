-- The rule table: its words by name, the gaps that its sets go by, the test, the automaton that its
-- words describe. Apart from these, Invariants has what private functions promise.
pub mod Layout
pub mod Gaps
pub mod Table
pub mod Automaton
pub mod Invariants
