-- What the set of late positions is in a table that additions built.
use Rattle.std.proofs.Common.{◌≡◌, ℕ, ◌<◌, not, ◌&&◌}
use Rattle.sets.specs.Set.{any}
use Rattle.table.specs.Layout.{max_positions}
use Rattle.table.specs.Gaps.{unsettled, inner_gaps}
use Rattle.table.specs.Automaton.{Automaton}

-- a match waits for the next byte with the positions that can end one at some gap between two
-- bytes, and not whatever follows
abbrev pub LatesAre : Automaton → Type 0
LatesAre w = (q : ℕ) → q < max_positions → w.late q ≡ (any inner_gaps (λ g. w.ending g q) && not (w.ending unsettled q))
