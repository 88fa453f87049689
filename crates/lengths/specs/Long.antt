-- "smallest match length": which positions have a match that is long enough. Assumes nothing: these
-- are definitions.
use Rattle.std.specs.Prelude.{◌&&◌, List, ℕ, get_or}
use Rattle.sets.specs.Set.{has, set_of}
use Rattle.table.specs.Automaton.{Automaton}

-- Of a set of positions, with the smallest start of the matches that have reached each, those whose
-- longest match is long enough to be reported at this end offset.
unfoldable pub long_in : Automaton → (set starts : List ℕ) → (end : ℕ) → List ℕ
long_in w set starts end = set_of (λ q. has set q && w.long q (get_or starts q 0) end)
