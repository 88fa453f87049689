-- `store` meets its contract: eight stores in a row.
use native.Mathlib.Numerals.{towards_suc}
use Rattle.marks.proofs.parts.store.Goals as goal

pub returns : goal.returns
returns c = simp towards_suc
