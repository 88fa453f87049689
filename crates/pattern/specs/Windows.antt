-- The windows of a rule as they are given, and the checks of a pattern's length and of them.
-- Assumes nothing: these are definitions.
use Rattle.std.specs.Prelude.{Bool, cond, ℕ, ltb}
use Rattle.meaning.specs.Rule.{Windows}
use Rattle.pattern.specs.Read.{over_long}
use Rattle.pattern.specs.declared.bounds.Bounds.{Bounds}

-- "smallest and largest end offset, and smallest match length"
abbrev pub windows_of : Bounds → Windows
windows_of v =
    record { smallest_end = v.lowest; largest_end = v.highest; smallest_length = v.shortest }

-- 26: "A smallest offset above the largest is refused with 26, right after 5, place 0."
unfoldable pub empty_window : Windows → Bool
empty_window v = ltb v.largest_end v.smallest_end

-- the number of the first of 5 and 26 that is due, or 0
unfoldable pub size_fault : (length : ℕ) → Windows → ℕ
size_fault length v = cond (over_long length) 5 (cond (empty_window v) 26 0)
