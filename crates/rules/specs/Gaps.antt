-- The assertions that are known to hold at each gap of a stream, and the parts of a rule there.
-- Assumes nothing: these are definitions.
use Rattle.std.specs.Prelude.{List, [], ◌∷◌, ℕ, ◌+◌, get_or}
use Rattle.nodes.specs.Nodes.{Syntax}
use Rattle.automaton.specs.Parts.{parts_of}
use Rattle.automaton.specs.declared.Parts.{Parts}

-- The assertions of each gap, by the gap's number: a binary digit for each assertion that is known
-- to hold there, by its number in a node. From the lowest digit on: at the stream's start 1, at its
-- end 2, where its last line ends 4, at a line's start 8, at a line's end 16, at a word's edge 32,
-- and not at one 64.
abbrev pub holding : List ℕ
holding =
    64 ∷ 32 ∷ (16 + 64) ∷ (16 + 32) ∷ (8 + 16 + 64) ∷ (8 + 64) ∷ (8 + 32)
    ∷ (4 + 16 + 64) ∷ (4 + 16 + 32) ∷ (4 + 8 + 16 + 64)
    ∷ 0
    ∷ (2 + 4 + 16 + 64) ∷ (2 + 4 + 16 + 32)
    ∷ (1 + 8 + 64) ∷ (1 + 8 + 32) ∷ (1 + 8 + 16 + 64) ∷ (1 + 4 + 8 + 16 + 64) ∷ []

abbrev pub holding_at : ℕ → ℕ
holding_at g = get_or holding g 0

-- the parts of a tree at each gap, its positions numbered from `base` on
abbrev pub parts_at : Syntax → (base gap : ℕ) → Parts
parts_at x base g = parts_of x base (holding_at g)
