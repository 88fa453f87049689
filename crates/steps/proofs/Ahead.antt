-- The walk over a word's digits, of whatever it collects, seen from a turn: the turns to come make of
-- what is collected so far what all turns make of what there was at first. So a loop over the digits
-- needs no count of its turns. Assumes nothing.
use mathlib.Core.Path.{◌≡◌, refl, sym, ap, ap₂, ◌∙◌}
use mathlib.Core.List.{List}
use Prim.Native.Nat.{ℕ, zero, suc, ◌+◌, ◌-◌, ◌*◌}
use lib.Bits.{bit_and}
use Rattle.std.proofs.Common.{Some}
use lib.Count.{ones, count_trailing_zeros}
use lib.ListN.{get_or}
use Rattle.sets.specs.Set.{set_of, union_of}
use Rattle.sets.specs.Walk.{GivesLowest}
use Rattle.sets.proofs.Bits.{ones-clear}
use Rattle.table.specs.Layout.{owner_at, row_has}
use Rattle.steps.specs.Walk.{left, asked}
use Rattle.steps.specs.Invariants.{joined, with_owner, collected}

-- the word after a turn
abbrev cleared : ℕ → ℕ
cleared w = bit_and w (w - 1)

left-ahead : (w n : ℕ) → left w (suc n) ≡ left (cleared w) n
unfolding left
left-ahead w zero = refl
left-ahead w (suc n) = ap cleared (left-ahead w n)

module _ {A : Type 0} (ask : A → ℕ → A) (turn : ℕ → A → ℕ → A) (begun : (w : ℕ) (x : A) → turn w x 0 ≡ x)
    (next : (w : ℕ) (x : A) (n : ℕ) → turn w x (suc n) ≡ ask (turn w x n) (asked w n)) where
  ahead : (w : ℕ) (x : A) (n : ℕ) → turn w x (suc n) ≡ turn (cleared w) (ask x (count_trailing_zeros 64 w)) n
  unfolding left
  ahead w x zero = next w x 0 ∙ ap (λ (y : A). ask y (asked w 0)) (begun w x) ∙ sym (begun (cleared w) (ask x (count_trailing_zeros 64 w)))
  ahead w x (suc n) =
      next w x (suc n)
      ∙ ap₂ ask (ahead w x n) (ap (count_trailing_zeros 64) (left-ahead w n))
      ∙ sym (next (cleared w) (ask x (count_trailing_zeros 64 w)) n)

  once : {w k v : ℕ} (x : A) → GivesLowest w (Some k) v → turn w x (ones w) ≡ turn v (ask x k) (ones v)
  once {w} {k} {v} x gives =
      ap (turn w x) (ones-clear 64 w gives.1 gives.0) ∙ ahead w x (ones (cleared w))
      ∙ sym (ap₂ (λ (p u : ℕ). turn u (ask x p) (ones u)) gives.3 gives.4)

pub collected-once : (t : List ℕ) (rules base : ℕ) {w k v : ℕ} (found : ℕ) → GivesLowest w (Some k) v
    → collected t rules w base found (ones w) ≡ collected t rules v base (with_owner rules (get_or t (owner_at (base + k)) 0) found) (ones v)
unfolding collected
collected-once t rules base =
    once (λ s p. with_owner rules (get_or t (owner_at (base + p)) 0) s) (λ w. collected t rules w base) (λ w x. refl) (λ w x n. refl)

pub joined-once : (t : List ℕ) (rows base : ℕ) {w k v : ℕ} (set : List ℕ) → GivesLowest w (Some k) v
    → joined t rows w base set (ones w) ≡ joined t rows v base (union_of set (set_of (row_has t (rows + (base + k) * 4)))) (ones v)
unfolding joined
joined-once t rows base =
    once (λ s p. union_of s (set_of (row_has t (rows + (base + p) * 4)))) (λ w. joined t rows w base) (λ w x. refl) (λ w x n. refl)

-- a turn more is a digit less
pub one-less : {w k v : ℕ} → GivesLowest w (Some k) v → ones w ≡ suc (ones v)
one-less {w} gives = ones-clear 64 w gives.1 gives.0 ∙ ap (λ (v : ℕ). suc (ones v)) (sym gives.4)

-- after the last turn
pub none-ahead : {w : ℕ} → w ≡ 0 → ones w ≡ 0
unfolding ones
none-ahead e = ap ones e

pub collected-end : (t : List ℕ) (rules base found : ℕ) {w : ℕ} → w ≡ 0 → collected t rules w base found (ones w) ≡ found
unfolding collected ones
collected-end t rules base found e = ap (λ (w : ℕ). collected t rules w base found (ones w)) e

pub joined-end : (t : List ℕ) (rows base : ℕ) (set : List ℕ) {w : ℕ} → w ≡ 0 → joined t rows w base set (ones w) ≡ set
unfolding joined ones
joined-end t rows base set e = ap (λ (w : ℕ). joined t rows w base set (ones w)) e
