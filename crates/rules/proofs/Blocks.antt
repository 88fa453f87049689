-- What the library's methods write into a part of the words, and what they find there, as the
-- definitions have it: words by their index.
use Rattle.std.proofs.Common.{◌≡◌, ℕ, zero, suc, ◌+◌, ◌-◌, ◌<◌, ◌≤◌, Bool, true, false, ◌||◌, List, [], ◌∷◌, length, get_or, take, drop, set, sym, refl, ap, ap₂, ◌∙◌, arith, length-drop, get_or-drop}
use native.Mathlib.Numerals.{add-one}
use native.Mathlib.Nat.{add-zero}
use Rattle.std.specs.List.{list_any, count_by}
use Rattle.std.specs.List.{CopiedTo, SameBelow, SameFrom}
use Rattle.std.proofs.lemmas.List.{set-get_or}
use Rattle.std.proofs.lemmas.List.Folds.{list_any_more}
use Rattle.std.proofs.lemmas.List.Sums.{count_by_more_no, count_by_more_yes}
use Rattle.sets.specs.Set.{any, count}
use Rattle.table.specs.Invariants.{copied, moved_up}
use Rattle.table.proofs.Over.{over-is, written_none, written-up}

-- ---- writes

-- one word
pub one-put : (at v : ℕ) (t : List ℕ) → at < length t → set t at v ≡ copied at 1 (v ∷ []) t
one-put at v t h =
    let e : 0 ≡ at - at = omega arith in
    (written-up (written_none {lo = at} {hi = at} {g = λ w. get_or (v ∷ []) (w - at) 0} {t = t} (omega arith)) (omega arith) h refl (ap (λ (k : ℕ). get_or (v ∷ []) k 0) e)).is

-- the word that stands there
pub one-kept : (at : ℕ) (t : List ℕ) → at < length t → t ≡ copied at 1 (get_or t at 0 ∷ []) t
one-kept at t h = sym (set-get_or t at 0) ∙ one-put at (get_or t at 0) t h

-- two words
pub two-put : (at u v : ℕ) (t : List ℕ) → at + 1 < length t → set (set t at u) (at + 1) v ≡ copied at 2 (u ∷ v ∷ []) t
two-put at u v t h =
    let e : 0 ≡ at - at = omega arith in
    let d : 1 ≡ at + 1 - at = omega arith in
    (written-up (written-up (written_none {lo = at} {hi = at} {g = λ w. get_or (u ∷ v ∷ []) (w - at) 0} {t = t} (omega arith)) (omega arith) (omega arith) refl (ap (λ (k : ℕ). get_or (u ∷ v ∷ []) k 0) e))
    (omega arith) h (omega arith) (ap (λ (k : ℕ). get_or (u ∷ v ∷ []) k 0) d)).is

-- the m words from base on, one up
pub up-moved : (base dest n m : ℕ) (t s : List ℕ) → dest ≡ base + 1 → n ≡ m → length s ≡ length t → CopiedTo t s base dest n × SameBelow t s dest × SameFrom t s (dest + n) → s ≡ moved_up base m t
up-moved base dest n m t s d size l by =
    over-is (base + 1) (base + 1 + m) (λ w. get_or t (w - 1) 0) t s l
    (λ w a b h. let e : base + (w - dest) ≡ w - 1 = omega arith in by.0 w 0 (omega arith) (omega arith) ∙ ap (λ (k : ℕ). get_or t k 0) e)
    (λ w a. by.1 w 0 (omega arith))
    (λ w a. by.2 w 0 (omega arith))

-- ---- searches

module _ (p : ℕ → Bool) (t : List ℕ) (at : ℕ) where
  -- the test of the word in place a
  abbrev there : ℕ → Bool
  there a = p (get_or t (at + a) 0)

  more : (n : ℕ) → at + suc n ≤ length t → n < length (drop at t)
  more n h = omega (arith, length-drop at t)

  any-first : (n : ℕ) → at + n ≤ length t → list_any p (take n (drop at t)) ≡ any n there
  unfolding any
  any-first zero h = refl
  any-first (suc n) h =
      ap (λ (k : ℕ). list_any p (take k (drop at t))) (sym (add-one n)) ∙ list_any_more p (drop at t) n 0 (more n h)
      ∙ ap₂ (λ (x y : Bool). x || y) (any-first n (omega arith)) (ap p (get_or-drop at t n 0))

  count-more : (n : ℕ) (b : Bool) → there n ≡ b → n < length (drop at t) → count_by p (take n (drop at t)) ≡ count n there → count_by p (take (n + 1) (drop at t)) ≡ count (suc n) there
  unfolding count
  count-more n true e h c = count_by_more_yes p (drop at t) n 0 h (ap p (get_or-drop at t n 0) ∙ e) ∙ rw (e, c)
  count-more n false e h c = count_by_more_no p (drop at t) n 0 h (ap p (get_or-drop at t n 0) ∙ e) ∙ rw (e, c) (sym (add-zero (count n there)))

  count-first : (n : ℕ) → at + n ≤ length t → count_by p (take n (drop at t)) ≡ count n there
  unfolding count
  count-first zero h = refl
  count-first (suc n) h =
      ap (λ (k : ℕ). count_by p (take k (drop at t))) (sym (add-one n)) ∙ count-more n (there n) refl (more n h) (count-first n (omega arith))

  -- of the n words from `at` on, as `t[at..at + n]` has them
  module _ (n : ℕ) (h : at + n ≤ length t) where
    size : at + n - at ≡ n
    size = omega arith

    pub any-part : list_any p (take (at + n - at) (drop at t)) ≡ any n there
    any-part = ap (λ (k : ℕ). list_any p (take k (drop at t))) size ∙ any-first n h

    pub count-part : count_by p (take (at + n - at) (drop at t)) ≡ count n there
    count-part = ap (λ (k : ℕ). count_by p (take k (drop at t))) size ∙ count-first n h
