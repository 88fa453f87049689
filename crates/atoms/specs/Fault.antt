-- The fault of a token, as a number of the table "When the watcher says no". Assumes nothing: these
-- are definitions.
use Rattle.std.specs.Prelude.{cond, ℕ, min, eqb}

-- "the lower number first within it": the lower of two faults, where 0 is none
unfoldable pub lower : ℕ → ℕ → ℕ
lower f g = cond (eqb f 0) g (cond (eqb g 0) f (min f g))
