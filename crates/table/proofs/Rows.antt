-- Sets in a list of words: each depends on its own words alone, so a write elsewhere leaves it
-- (`row_below`, `row-above`), and a write to its own words is read back digit by digit.
use Rattle.std.proofs.Common.{◌≡◌, ℕ, ◌+◌, ◌/◌, ◌%◌, ◌<◌, ◌≤◌, Bool, true, false, ◌&&◌, ltb, List, [], ◌∷◌, length, get_or, sym, refl, ap, ◌∙◌, add-zero, arith, w64, Fits, ltb-true, le-ltb, lt-ltb}
use native.Mathlib.Decide.{dec_lt}
use lib.ListN.{get_or-eq_default}
use Rattle.sets.specs.Set.{on, has, set_of, empty_set}
use Rattle.sets.proofs.Laws.{four_of, get_d-four_of, on-zero, words-four_of, by_members, set_of-ext}
use Rattle.table.specs.Layout.{max_positions, row_has}
use Rattle.table.proofs.Over.{over, over_below, over-above}

-- what is asked below a limit only is settled there
pub under : {A : Type 0} (n k : ℕ) (f g : Bool → A) → (k < n → f true ≡ g true) → f false ≡ g false → f (ltb k n) ≡ g (ltb k n)
under n k f g inside past = go (ltb k n) refl
  where
    go : (b : Bool) → ltb k n ≡ b → f b ≡ g b
    go true e = inside (ltb-true k n e)
    go false e = past

-- ---- a set in a list

-- a member of the set at `at` is a digit of one of its four words
pub row-member : (t : List ℕ) (at q : ℕ) → q < max_positions → row_has t at q ≡ on (get_or t (at + q / 64) 0) (q % 64)
unfolding row_has
row-member t at q h = ap (λ (b : Bool). b && on (get_or t (at + q / 64) 0) (q % 64)) (lt-ltb q max_positions h)

-- no member is past the last position
pub row-past : (t : List ℕ) (at q : ℕ) → max_positions ≤ q → row_has t at q ≡ false
unfolding row_has
row-past t at q h = ap (λ (b : Bool). b && on (get_or t (at + q / 64) 0) (q % 64)) (le-ltb q max_positions h)

-- two sets with the same words have the same members
pub row_same : (t u : List ℕ) (at at' : ℕ) → ((i : ℕ) → i < 4 → get_or t (at + i) 0 ≡ get_or u (at' + i) 0) → (q : ℕ) → row_has t at q ≡ row_has u at' q
row_same t u at at' e q = go (dec_lt q max_positions)
  where
    go : Dec (q < max_positions) → row_has t at q ≡ row_has u at' q
    go (yes h) =
        row-member t at q h ∙ ap (λ (x : ℕ). on x (q % 64)) (e (q / 64) (omega arith)) ∙ sym (row-member u at' q h)
    go (no h) = row-past t at q (omega arith) ∙ sym (row-past u at' q (omega arith))

-- four words 0 are the empty set
pub row-empty : (t : List ℕ) (at : ℕ) → ((i : ℕ) → i < 4 → get_or t (at + i) 0 ≡ 0) → (q : ℕ) → row_has t at q ≡ false
row-empty t at e q = go (dec_lt q max_positions)
  where
    go : Dec (q < max_positions) → row_has t at q ≡ false
    go (yes h) = row-member t at q h ∙ ap (λ (x : ℕ). on x (q % 64)) (e (q / 64) (omega arith)) ∙ on-zero (q % 64)
    go (no h) = row-past t at q (omega arith)

-- the four words by themselves
abbrev pub row : List ℕ → ℕ → List ℕ
row t at = four_of (λ i. get_or t (at + i) 0)

pub has-row : (t : List ℕ) (at q : ℕ) → q < max_positions → has (row t at) q ≡ row_has t at q
unfolding has
has-row t at q h =
    ap (λ (x : ℕ). on x (q % 64)) (get_d-four_of (λ i. get_or t (at + i) 0) (q / 64) (omega arith)) ∙ sym (row-member t at q h)

-- and they are the set of their members
pub row_words : (t : List ℕ) (at : ℕ) → ((i : ℕ) → Fits w64 (get_or t i 0))
    → (get_or t at 0 ∷ get_or t (at + 1) 0 ∷ get_or t (at + 2) 0 ∷ get_or t (at + 3) 0 ∷ []) ≡ set_of (row_has t at)
row_words t at small =
    ap (λ (i : ℕ). get_or t i 0 ∷ get_or t (at + 1) 0 ∷ get_or t (at + 2) 0 ∷ get_or t (at + 3) 0 ∷ []) (sym (add-zero at))
    ∙ by_members (row t at) (words-four_of (λ i. get_or t (at + i) 0) (λ i h. (small (at + i)).fits)) (row_has t at) (has-row t at)

-- a set past the end has no members, and one that the end cuts off has words 0 there
pub row-past-end : (t : List ℕ) (at : ℕ) → length t ≤ at → empty_set ≡ set_of (row_has t at)
unfolding empty_set
row-past-end t at h = set_of-ext (λ q. false) (row_has t at) (λ q l. sym (row-empty t at (λ i m. get_or-eq_default t 0 (omega arith)) q))

pub row_cut : (t : List ℕ) (at b c : ℕ) → ((i : ℕ) → Fits w64 (get_or t i 0)) → length t ≤ at + 3 → b ≡ get_or t (at + 1) 0 → c ≡ get_or t (at + 2) 0
    → (get_or t at 0 ∷ b ∷ c ∷ 0 ∷ []) ≡ set_of (row_has t at)
row_cut t at b c small h eb ec =
    (λ i. get_or t at 0 ∷ eb i ∷ ec i ∷ sym (get_or-eq_default t 0 h) i ∷ []) ∙ row_words t at small

-- ---- after a write

module _ (lo hi : ℕ) (g : ℕ → ℕ) (t : List ℕ) where
  -- a set outside the range is as it was
  pub row_below : (at : ℕ) → at + 4 ≤ lo → (q : ℕ) → row_has (over lo hi g t) at q ≡ row_has t at q
  row_below at h = row_same (over lo hi g t) t at at (λ i l. over_below lo hi g t (at + i) (omega arith))

  pub row-above : (at : ℕ) → hi ≤ at → (q : ℕ) → row_has (over lo hi g t) at q ≡ row_has t at q
  row-above at h = row_same (over lo hi g t) t at at (λ i l. over-above lo hi g t (at + i) (omega arith))
