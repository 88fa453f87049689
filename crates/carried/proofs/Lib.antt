-- The laws of the starts along a byte: RowSets (a set and a row of a table), InPlace (starts in
-- place). Those of the walks are in `Carrying` of the crate `steps`.
pub mod RowSets
pub mod InPlace
