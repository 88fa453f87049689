-- What a byte is to the assertions on lines and words. What stands in quotes is quoted from the
-- product's rules. Assumes nothing: these are definitions.
use Rattle.std.specs.Prelude.{cond, ℕ, eqb}
use Rattle.kinds.specs.Kind.{is_word}
use Rattle.kinds.specs.declared.Side.{Side}
use Rattle.kinds.specs.declared.Side.TheVariants.{Other, Word, Newline}

-- "a byte 10"; "Add `\b` and `\B` on `\w`". Byte 10 is not of `\w`, so each byte is one of the
-- three.
unfoldable pub side_of : ℕ → Side
side_of b = cond (eqb b 10) Newline (cond (is_word b) Word Other)

-- A side as a word: 1 is a word byte, 2 a newline, every other number neither.
unfoldable pub side_in : ℕ → Side
side_in x = cond (eqb x 1) Word (cond (eqb x 2) Newline Other)

unfoldable pub side_word : Side → ℕ
side_word Other = 0
side_word Word = 1
side_word Newline = 2
