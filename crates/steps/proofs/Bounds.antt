-- What the code asks of numbers: sums and products that fit a word. Each is stated over plain
-- numbers, since `omega` is dear where all that is known of a call is in reach.
use Prim.Native.Nat.{ℕ, ◌+◌, ◌*◌, ◌<◌, ◌≤◌}
use native.Mathlib.Omega.{arith}
use mathlib.Core.List.{List}
use mir.Syntax.{w32, w64}
use mir.Val.{Val, Fits}
use denote.Laws.{Is}
use denote.Plain.{UInt}
use denote.Array.{Array}
use borrow.Author.Rules.{rules}
use borrow.Kind.Array.{e_int, good_length}
use Rattle.sets.proofs.Laws.{Words, words-owned}
use Rattle.table.specs.Layout.{table_words, first_at, last_at}
use Rattle.table.specs.Gaps.{last_gaps, first_gaps, follow_gaps}

-- ---- the sets of a gap

module _ (g : ℕ) (h : g < last_gaps) where
  pub last-offset-fits : Fits w64 (g * 4)
  last-offset-fits = record { fits = omega arith }

  pub last_fits : Fits w64 (last_at g)
  last_fits = record { fits = omega arith }

  pub last-inside : (n : ℕ) → table_words ≤ n → last_at g + 4 ≤ n
  last-inside n l = omega arith

module _ (g : ℕ) (h : g < first_gaps) where
  pub first-offset-fits : Fits w64 (g * 4)
  first-offset-fits = record { fits = omega arith }

  pub first_fits : Fits w64 (first_at g)
  first_fits = record { fits = omega arith }

  pub first-inside : (n : ℕ) → table_words ≤ n → first_at g + 4 ≤ n
  first-inside n l = omega arith

-- where the rows of what follows a position begin
abbrev pub follow_rows : ℕ → ℕ
follow_rows g = 5120 + g * 1024

module _ (g : ℕ) (h : g < follow_gaps) where
  pub follow-offset-fits : Fits w64 (g * 1024)
  follow-offset-fits = record { fits = omega arith }

  pub follow-fits : Fits w64 (follow_rows g)
  follow-fits = record { fits = omega arith }

  -- the rows of a gap's 256 positions are inside a table
  pub follow-inside : follow_rows g ≤ 14336
  follow-inside = omega arith

-- ---- a set's four words

pub words-good : (s : List ℕ) (vs : List Val) → Is (Array (UInt w64) 4) s vs → Words s
words-good s vs p = words-owned s (good_length (e_int w64) 4 s vs p) (λ i. search rules)

-- the turns of the walks over them
pub two-turns : (a b : ℕ) → a ≤ 64 → b ≤ 64 → Fits w32 (a + b)
two-turns a b h i = record { fits = omega arith }

pub three-turns : (a b c : ℕ) → a ≤ 64 → b ≤ 64 → c ≤ 64 → Fits w32 (a + b + c)
three-turns a b c h i j = record { fits = omega arith }

pub four-turns : (a b c d : ℕ) → a ≤ 64 → b ≤ 64 → c ≤ 64 → d ≤ 64 → Fits w32 (a + b + c + d)
four-turns a b c d h i j k = record { fits = omega arith }
