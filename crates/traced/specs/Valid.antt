-- When a state with starts fits a table: what number 18 asks. Assumes nothing: these are
-- definitions.
use Rattle.std.specs.Prelude.{Bool, ◌&&◌}
use Rattle.table.specs.Automaton.{Automaton}
use Rattle.stream.specs.Valid.{sound}
use Rattle.starts.specs.Order.{in_order}
use Rattle.traced.specs.declared.Traced.{Traced}

-- the stream fits, and its starts are in order
unfoldable pub valid : Automaton → Traced → Bool
valid w z = sound w z.stream && in_order z.stream z.starts.live z.starts.held z.starts.pairs
