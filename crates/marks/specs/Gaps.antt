-- The gaps of a log, by meaning: what stands before and behind the byte at offset k, and so which
-- assertions hold there. Assumes nothing: these are definitions.
use Rattle.std.specs.Prelude.{Bool, cond, ◌&&◌, List, ℕ, suc, eqb, get_or, take}
use Rattle.sets.specs.Set.{has}
use Rattle.kinds.specs.Side.{side_of}
use Rattle.meaning.specs.Gap.{Known, byte, edge, unknown, known_before}
use Rattle.meaning.specs.Rule.{Assertion, world, ByteSet}

-- `last` says that the log is known to end with the byte

abbrev pub before_gap : List ℕ → ℕ → Known
before_gap bytes k = known_before (take k bytes)

abbrev pub after_gap : List ℕ → ℕ → Known
after_gap bytes k = byte (side_of (get_or bytes k 0))

abbrev pub inner_world : List ℕ → (last : Bool) → ℕ → Assertion → Bool
inner_world bytes last k =
    world (before_gap bytes k) (after_gap bytes k) (last && eqb (get_or bytes k 0) 10)

abbrev pub outer_world : List ℕ → (last : Bool) → ℕ → Assertion → Bool
outer_world bytes last k =
    world (before_gap bytes (suc k)) (cond last edge unknown) last

-- the sets that have the byte at offset k
abbrev pub taken : List ℕ → ℕ → ByteSet → Bool
taken bytes k c = has c (get_or bytes k 0)
