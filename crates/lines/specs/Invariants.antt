-- What the private functions promise one another. Those of the output keep a line in an array of its
-- own.
use Rattle.std.specs.Prelude.{◌≡◌, Option, None, Some, true, false, List, ◌++◌, ℕ, ◌+◌, ◌-◌, length, replicate, drop}
use Rattle.lines.specs.Lines.{is_field, field_value, field_size}
use Rattle.lines.specs.declared.Field.{Field}
use Rattle.lines.specs.Output.{Buffer, buffer, placed}
use Rattle.lines.specs.declared.output.Text.{Text}

-- a text of these bytes: the rest of the array is zeros
unfoldable pub text_of : List ℕ → Text
text_of l = record { bytes = l ++ replicate (80 - length l) 0; size = length l }

-- a text with more bytes after it, placed as in any buffer
abbrev pub as_text : Buffer → Text
as_text b = record { bytes = b.bytes; size = b.next }

unfoldable pub joined : Text → List ℕ → Text
joined t more = as_text (placed (buffer t.size t.bytes) more)

-- what is read of a field at a place: its value and where the rest begins, if there is one
abbrev pub Found : (v : List ℕ) (from : ℕ) → Option Field → Type 0
Found v from None = is_field (drop from v) ≡ false
Found v from (Some f) = (is_field (drop from v) ≡ true) × ((f.value ≡ field_value (drop from v)) × (f.next ≡ from + field_size (drop from v)))
