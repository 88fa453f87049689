-- The marks of quotes, as the functions read them: none stand at a place, or two bytes and those
-- after them.
use mathlib.Core.Path.{◌≡◌, refl, ap, ◌∙◌}
use mathlib.Core.Bool.{Bool, true, false, cond, and-false}
use mathlib.Core.List.{List, [], ◌∷◌}
use Prim.Native.Nat.{ℕ, ◌+◌, ◌-◌, ◌≤◌}
use native.Mathlib.Omega.{arith}
use lib.Dec.{eqb}
use lib.ListN.{length, get_or, drop, length-drop}
use lib.Seq.{get_or-drop, drop-drop}
use Rattle.atoms.specs.Quote.{is_mark, opens_quote, no_gap, wider, gap_of}
use Rattle.atoms.specs.declared.Gap.{Gap}
use Rattle.atoms.proofs.Suffixes.{first}
use Rattle.atoms.proofs.Sizes.{pick, mark-within}

-- a mark stands in the pattern, both its bytes
pub mark-inside : (s : List ℕ) (at : ℕ) (quoted : Bool) → is_mark quoted (get_or s at 0) (get_or s (at + 1) 0) ≡ true → at + 2 ≤ length s
mark-inside s at quoted k =
    let second : is_mark quoted (get_or s at 0) (get_or (drop (at + 1) s) 0 0) ≡ true = rw (first s (at + 1)) k in
    omega (arith, mark-within quoted (get_or s at 0) (drop (at + 1) s) second, length-drop (at + 1) s)

gap-front : (quoted : Bool) (v : List ℕ)
    → gap_of quoted v ≡ cond (is_mark quoted (get_or v 0 0) (get_or v 1 0)) (wider (gap_of (opens_quote (get_or v 1 0)) (drop 2 v))) (no_gap quoted)
unfolding gap_of is_mark
gap-front quoted [] = refl
gap-front quoted (c ∷ []) = rw (and-false (eqb c 92))
gap-front quoted (c ∷ d ∷ v) = refl

-- the marks stand among the bytes
gap-fits : (quoted : Bool) (v : List ℕ) → (gap_of quoted v).size ≤ length v
unfolding gap_of
gap-fits quoted [] = omega arith
gap-fits quoted (c ∷ []) = omega arith
gap-fits quoted (c ∷ d ∷ v) =
    let more = gap-fits (opens_quote d) v in
    pick (λ (g : Gap). g.size ≤ length (c ∷ d ∷ v)) (is_mark quoted c d) (λ e. omega (arith, more)) (omega arith)

pub gap-size : (quoted : Bool) (s : List ℕ) (at : ℕ) (g : Gap) → g ≡ gap_of quoted (drop at s) → g.size ≤ length s - at
gap-size quoted s at g e = omega (arith, ap (λ (x : Gap). x.size) e, gap-fits quoted (drop at s), length-drop at s)

module _ (quoted : Bool) (s : List ℕ) (i : ℕ) where
  gap_is : gap_of quoted (drop i s)
      ≡ cond (is_mark quoted (get_or s i 0) (get_or s (i + 1) 0)) (wider (gap_of (opens_quote (get_or s (i + 1) 0)) (drop (i + 2) s))) (no_gap quoted)
  gap_is = gap-front quoted (drop i s) ∙ rw (first s i, get_or-drop i s 1 0, drop-drop 2 i s)

  pub gap-none : is_mark quoted (get_or s i 0) (get_or s (i + 1) 0) ≡ false → gap_of quoted (drop i s) ≡ no_gap quoted
  gap-none e = gap_is ∙ rw e

  pub gap_more : is_mark quoted (get_or s i 0) (get_or s (i + 1) 0) ≡ true
      → gap_of quoted (drop i s) ≡ wider (gap_of (opens_quote (get_or s (i + 1) 0)) (drop (i + 2) s))
  gap_more e = gap_is ∙ rw e

-- Of the marks at `at`, those before i are read; `after` whether a quote is open after them.
pub record Passed (quoted : Bool) (s : List ℕ) (at i : ℕ) (after : Bool) : Type 0 where
  pub from : at ≤ i
  pub sized : i - at + (gap_of after (drop i s)).size ≡ (gap_of quoted (drop at s)).size
  pub open_after : (gap_of after (drop i s)).quoted ≡ (gap_of quoted (drop at s)).quoted

module _ (quoted : Bool) (s : List ℕ) (at : ℕ) where
  pub passed_none : Passed quoted s at at quoted
  passed_none = record { from = omega arith; sized = omega arith; open_after = refl }

  module _ (i : ℕ) (after : Bool) (passed : Passed quoted s at i after) where
    -- at a mark whose second byte is d
    pub passed-more : (d : ℕ) → is_mark after (get_or s i 0) (get_or s (i + 1) 0) ≡ true → d ≡ get_or s (i + 1) 0
        → Passed quoted s at (i + 2) (eqb d 81)
    passed-more d t e =
        let here = gap_more after s i t in
        record {
          from = omega (arith, passed.from);
          sized = rw e (let sized = rw here at passed.sized in omega (arith, sized, passed.from));
          open_after = rw e (rw here at passed.open_after);
        }

    -- where no mark stands
    pub passed-done : is_mark after (get_or s i 0) (get_or s (i + 1) 0) ≡ false
        → record { size = i - at; quoted = after } ≡ gap_of quoted (drop at s)
    passed-done t =
        let here = gap-none after s i t in
        let size : i - at ≡ (gap_of quoted (drop at s)).size = omega (arith, rw here at passed.sized) in
        let is : after ≡ (gap_of quoted (drop at s)).quoted = rw here at passed.open_after in
        λ k. record { size = size k; quoted = is k }
