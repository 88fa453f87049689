-- The lines that the program writes, and how lines are placed in a buffer. Assumes nothing: these
-- are definitions.
use Rattle.std.specs.Prelude.{cond, List, [], ◌∷◌, ◌++◌, ℕ, zero, suc, ◌+◌, leb, length, get_or, take, drop}
use Rattle.lines.specs.Numbers.{decimal_of}

-- "Every line written ends with byte 10."
abbrev pub newline : List ℕ
newline = 10 ∷ []

-- the words of the lines, in ASCII with the spaces around them
abbrev pub space : List ℕ
space = 32 ∷ []

abbrev pub rule- : List ℕ
rule- = 114 ∷ 117 ∷ 108 ∷ 101 ∷ space

abbrev pub -refused- : List ℕ
-refused- = 32 ∷ 114 ∷ 101 ∷ 102 ∷ 117 ∷ 115 ∷ 101 ∷ 100 ∷ space

abbrev pub -at- : List ℕ
-at- = 32 ∷ 97 ∷ 116 ∷ space

abbrev pub end- : List ℕ
end- = 101 ∷ 110 ∷ 100 ∷ space

-- the line of a report, "7 9": an id and an end offset
unfoldable pub report_line : (id offset : ℕ) → List ℕ
report_line id offset = decimal_of id ++ space ++ decimal_of offset ++ newline

-- the line of a refused rule, "rule 2 refused 10 at 2": the rule's line in the file, the refusal's
-- number, its place
unfoldable pub refused_line : (line number place : ℕ) → List ℕ
refused_line line number place = rule- ++ decimal_of line ++ -refused- ++ decimal_of number ++ -at- ++ decimal_of place ++ newline

-- the last line, "end 12": the bytes of the stream
unfoldable pub end_line : (taken : ℕ) → List ℕ
end_line taken = end- ++ decimal_of taken ++ newline

-- a buffer with lines at its front: where the next line goes, and the bytes
pub record Buffer : Type 0 where
  pub next : ℕ
  pub bytes : List ℕ

abbrev pub buffer : ℕ → List ℕ → Buffer
buffer next bytes = record { next = next; bytes = bytes }

-- the buffer with a line placed there, whole; or as it was, where the line does not fit
unfoldable pub placed : Buffer → List ℕ → Buffer
placed b line =
    let end : ℕ = b.next + length line in
    cond (leb end (length b.bytes)) (buffer end (take b.next b.bytes ++ line ++ drop end b.bytes)) b

-- the buffer with the lines of the first n reports placed there in turn
unfoldable pub reports_placed : Buffer → (ids offsets : List ℕ) → ℕ → Buffer
reports_placed b ids offsets zero = b
reports_placed b ids offsets (suc n) = placed (reports_placed b ids offsets n) (report_line (get_or ids n 0) (get_or offsets n 0))
