-- The sets of positions that stand in four words each. A row is read as the set of its members, so
-- what is merged is a matter of members.
use mathlib.Core.Path.{◌≡◌, ap, ◌∙◌}
use mathlib.Core.Bool.{Bool, ◌&&◌, ◌||◌, and_comm, or-false}
use mathlib.Core.List.{List}
use Prim.Native.Nat.{ℕ, ◌+◌, ◌/◌, ◌%◌, ◌<◌}
use native.Mathlib.Omega.{arith}
use lib.Dec.{ltb}
use lib.ListN.{get_or}
use Rattle.sets.specs.Set.{on, has, set_of, empty_set, union_of, kept_below}
use Rattle.sets.proofs.Laws.{has-set_of, set_of-ext, has-empty, has-below}
use Rattle.table.specs.Layout.{row_has}
use Rattle.table.proofs.Rows.{row-member, row_same}
use Rattle.rules.specs.Invariants.{merged_row}

-- ---- a row as a set

-- a row that has a set's words is that set
pub row-set : (t : List ℕ) (at : ℕ) (f : ℕ → Bool) → ((i : ℕ) → i < 4 → get_or t (at + i) 0 ≡ get_or (set_of f) i 0) → (q : ℕ) → q < 256 → row_has t at q ≡ f q
unfolding has
row-set t at f e q h = row-member t at q h ∙ ap (λ (x : ℕ). on x (q % 64)) (e (q / 64) (omega arith)) ∙ has-set_of f q h

-- ---- merged rows

-- what `merge_row` makes of the words that it reads
pub merged-words : (t : List ℕ) (at n : ℕ) (new : List ℕ) → union_of (kept_below (set_of (row_has t at)) n) new ≡ merged_row t at n new
unfolding union_of merged_row
merged-words t at n new =
    set_of-ext (λ q. has (kept_below (set_of (row_has t at)) n) q || has new q) (λ q. (ltb q n && row_has t at q) || has new q)
    (λ q h. ap (λ (b : Bool). b || has new q)
    (has-below (set_of (row_has t at)) n q h ∙ ap (λ (b : Bool). b && ltb q n) (has-set_of (row_has t at) q h) ∙ and_comm (row_has t at q) (ltb q n)))

-- only the row's own four words count
pub merged-same : (s t : List ℕ) (at n : ℕ) (new : List ℕ) → ((i : ℕ) → i < 4 → get_or s (at + i) 0 ≡ get_or t (at + i) 0) → merged_row s at n new ≡ merged_row t at n new
unfolding merged_row
merged-same s t at n new e =
    set_of-ext (λ q. (ltb q n && row_has s at q) || has new q) (λ q. (ltb q n && row_has t at q) || has new q)
    (λ q h. ap (λ (b : Bool). (ltb q n && b) || has new q) (row_same s t at at e q))

-- with no new members the row is kept to the positions below n
pub merged-none : (t : List ℕ) (at n : ℕ) → merged_row t at n empty_set ≡ set_of (λ q. ltb q n && row_has t at q)
unfolding merged_row
merged-none t at n =
    set_of-ext (λ q. (ltb q n && row_has t at q) || has empty_set q) (λ q. ltb q n && row_has t at q)
    (λ q h. ap (λ (b : Bool). (ltb q n && row_has t at q) || b) (has-empty q h) ∙ or-false (ltb q n && row_has t at q))

-- new members that are given by a test
pub merged-new : (t : List ℕ) (at n : ℕ) (f : ℕ → Bool) → merged_row t at n (set_of f) ≡ set_of (λ q. (ltb q n && row_has t at q) || f q)
unfolding merged_row
merged-new t at n f =
    set_of-ext (λ q. (ltb q n && row_has t at q) || has (set_of f) q) (λ q. (ltb q n && row_has t at q) || f q)
    (λ q h. ap (λ (b : Bool). (ltb q n && row_has t at q) || b) (has-set_of f q h))
