-- What a rule means, in the order of the product's rules: tree, written-out form, positions, what
-- is known at a gap, rules, the ordered list, live positions. `Automaton` comes last: the meaning
-- does not need it.
pub mod Tree
pub mod Form
pub mod Count
pub mod Gap
pub mod Rule
pub mod Ordered
pub mod Live
pub mod Way
pub mod Automaton
