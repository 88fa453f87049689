-- A buffer in which lines are placed: it keeps its length, its lines lie within it, and where there
-- is room for every line of some reports, none is left out. By one step for a line, then by
-- induction on the number of reports.
use mathlib.Core.Path.{◌≡◌, refl, sym, ap, subst, ◌∙◌}
use mathlib.Core.List.{List, [], ◌++◌, append-nil, append_assoc}
use Prim.Native.Nat.{ℕ, zero, suc, ◌+◌, ◌*◌, ◌≤◌}
use native.Mathlib.Numerals.{add-one}
use native.Mathlib.Omega.{arith}
use native.Mathlib.Decide.{dec_lt}
use borrow.Author.Tests.{le-leb, lt-leb}
use lib.ListN.{length, get_or, take, length-append, length-take, length-drop}
use lib.Seq.{take_at}
use Rattle.lines.specs.Output.{Buffer, buffer, placed, reports_placed, report_line}
use Rattle.lines.proofs.Laws.{most-digits}

-- ---- one line

module _ (b : Buffer) (line : List ℕ) where
  pub placed-length : length (placed b line).bytes ≡ length b.bytes
  unfolding placed
  placed-length =
      elim (dec_lt (length b.bytes) (b.next + length line)) [
        | yes l ↦ rw (lt-leb _ _ l)
        | no l ↦
            let g : b.next + length line ≤ length b.bytes = omega arith in
            rw (le-leb _ _ g, length-append, length-append, length-take, length-drop) (omega arith)
      ]

  pub placed-within : b.next ≤ length b.bytes → (placed b line).next ≤ length (placed b line).bytes
  unfolding placed
  placed-within h =
      elim (dec_lt (length b.bytes) (b.next + length line)) [
        | yes l ↦ rw (lt-leb _ _ l) h
        | no l ↦
            let g : b.next + length line ≤ length b.bytes = omega arith in
            rw (le-leb _ _ g, length-append, length-append, length-take, length-drop) (omega arith)
      ]

-- what stands before the place of the next line
abbrev pub front : Buffer → List ℕ
front b = take b.next b.bytes

-- a line that fits stands behind what was there
module _ (b : Buffer) (line : List ℕ) (fits : b.next + length line ≤ length b.bytes) where
  pub placed-next : (placed b line).next ≡ b.next + length line
  unfolding placed
  placed-next = rw (le-leb _ _ fits)

  pub placed-front : front (placed b line) ≡ front b ++ line
  unfolding placed
  placed-front =
      let e : length (take b.next b.bytes ++ line) ≡ b.next + length line = rw (length-append, length-take) (omega arith) in
      rw (le-leb _ _ fits, take_at _ _ _ e)

-- ---- the lines of some reports

module _ (b : Buffer) (ids offsets : List ℕ) where
  pub reports-length : (n : ℕ) → length (reports_placed b ids offsets n).bytes ≡ length b.bytes
  unfolding reports_placed
  reports-length zero = refl
  reports-length (suc n) = placed-length _ _ ∙ reports-length n

  pub reports-within : b.next ≤ length b.bytes → (n : ℕ) → (reports_placed b ids offsets n).next ≤ length (reports_placed b ids offsets n).bytes
  unfolding reports_placed
  reports-within h zero = h
  reports-within h (suc n) = placed-within _ _ (reports-within h n)

  -- one report more
  pub reports-one : (now next : Buffer) (i : ℕ) → now ≡ reports_placed b ids offsets i → next ≡ placed now (report_line (get_or ids i 0) (get_or offsets i 0))
      → next ≡ reports_placed b ids offsets (i + 1)
  unfolding reports_placed
  reports-one now next i e f = rw (add-one, ← e) f

-- as a caller has them: the place that came back lies within the buffer that came back
module _ (at : ℕ) (out : List ℕ) (within : at ≤ length out) (next : ℕ) (exit : List ℕ) where
  pub placed-inside : (line : List ℕ) → buffer next exit ≡ placed (buffer at out) line → next ≤ length exit
  placed-inside line e = subst (λ (b : Buffer). b.next ≤ length b.bytes) (sym e) (placed-within (buffer at out) line within)

  pub reports-inside : (ids offsets : List ℕ) (n : ℕ) → buffer next exit ≡ reports_placed (buffer at out) ids offsets n → next ≤ length exit
  reports-inside ids offsets n e = subst (λ (b : Buffer). b.next ≤ length b.bytes) (sym e) (reports-within (buffer at out) ids offsets within n)

-- a report's line has at most 42 bytes: two numbers of at most 20 digits, a space and a newline
pub report-size : (id offset : ℕ) → length (report_line id offset) ≤ 42
unfolding report_line
report-size id offset = rw (length-append, length-append, length-append) (omega (arith, most-digits id, most-digits offset))

-- the lines of the first n reports, one after the other
unfoldable pub report_lines : (ids offsets : List ℕ) → ℕ → List ℕ
report_lines ids offsets zero = []
report_lines ids offsets (suc n) = report_lines ids offsets n ++ report_line (get_or ids n 0) (get_or offsets n 0)

-- with 42 bytes for each, every line is placed
module _ (b : Buffer) (ids offsets : List ℕ) where
  pub record All (n : ℕ) : Type 0 where
    pub room : (reports_placed b ids offsets n).next ≤ b.next + 42 * n
    pub lines : front (reports_placed b ids offsets n) ≡ front b ++ report_lines ids offsets n

  pub reports-all : (n : ℕ) → b.next + 42 * n ≤ length b.bytes → All n
  unfolding reports_placed report_lines
  reports-all zero h = record { room = omega arith; lines = sym (append-nil (front b)) }
  reports-all (suc n) h =
      let ih : All n = reports-all n (omega arith) in
      let line : List ℕ = report_line (get_or ids n 0) (get_or offsets n 0) in
      let was : Buffer = reports_placed b ids offsets n in
      let small : length line ≤ 42 = report-size (get_or ids n 0) (get_or offsets n 0) in
      let fits : was.next + length line ≤ length was.bytes = omega (arith, ih.room, small, reports-length b ids offsets n) in
      record {
        room = omega (arith, placed-next was line fits, ih.room, small);
        lines = placed-front was line fits ∙ ap (λ (l : List ℕ). l ++ line) ih.lines ∙ append_assoc (front b) (report_lines ids offsets n) line;
      }
