-- When the starts of a state are in order: what number 18 asks of them. Assumes nothing: these are
-- definitions.
use Rattle.std.specs.Prelude.{Bool, cond, not, ◌&&◌, List, ℕ, eqb, ltb, get_or}
use Rattle.sets.specs.Set.{on, has, any}
use Rattle.table.specs.Layout.{max_rules, max_positions}
use Rattle.stream.specs.declared.Stream.{Stream}

-- "a start, below the bytes taken, for each live position and each position or pair behind an
-- unsettled assertion, 0 elsewhere"
abbrev pub start_ok : (there : Bool) → (taken start : ℕ) → Bool
start_ok there taken start = cond there (ltb start taken) (eqb start 0)

-- the same of the first n starts of a list
unfoldable pub starts_ok : (n : ℕ) → (there : ℕ → Bool) → (taken : ℕ) → List ℕ → Bool
starts_ok n there taken starts = not (any n (λ q. not (start_ok (there q) taken (get_or starts q 0))))

-- the same of all starts of a state: of the live positions, of the held ones, and of held pairs
abbrev pub in_order : (s : Stream) → (live held pairs : List ℕ) → Bool
in_order s live held pairs =
    starts_ok max_positions (has s.live) s.taken live
    && (starts_ok max_positions (has s.held) s.taken held
    && starts_ok max_rules (on s.pending) s.taken pairs)
