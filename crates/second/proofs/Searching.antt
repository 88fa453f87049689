-- The first number that passes a test; words and keys that are the same.
use mathlib.Core.Path.{◌≡◌, refl, sym, ap, ap₂, ◌∙◌}
use mathlib.Core.Bool.{Bool, true, false, true≢false, cond, ◌&&◌, and-eq-true_iff}
use mathlib.Core.List.{List, [], ◌∷◌}
use Prim.Native.Nat.{ℕ, zero, suc, ◌+◌, ◌<◌, ◌≤◌, zero-le}
use native.Mathlib.Nat.{le_refl}
use native.Mathlib.Decide.{le_ind}
use native.Mathlib.Numerals.{add-one}
use native.Mathlib.Omega.{arith}
use lib.Dec.{eqb, ltb}
use lib.ListN.{length, get_or}
use lib.Seq.{ext_get_or}
use borrow.Author.Tests.{lt-ltb, le-ltb, ltb-true, eqb-true}
use Rattle.sets.proofs.Laws.{below-four}
use Rattle.kinds.proofs.Sides.{side_same}
use Rattle.second.specs.declared.Key.{Key}
use Rattle.second.specs.Layout.{words_at}
use Rattle.second.specs.Entries.{same_words, same_key, first_of}

-- ---- the first number that passes a test

pub first-le : (n : ℕ) (f : ℕ → Bool) → first_of n f ≤ n
unfolding first_of
first-le zero f = zero-le
first-le (suc n) f = go (ltb (first_of n f) n) (f n) (first-le n f)
  where
    go : (b d : Bool) → first_of n f ≤ n → cond b (first_of n f) (cond d n (suc n)) ≤ suc n
    go true d h = omega arith
    go false true h = omega arith
    go false false h = le_refl (suc n)

pub first_passes : (n : ℕ) (f : ℕ → Bool) → first_of n f < n → f (first_of n f) ≡ true
unfolding first_of
first_passes zero f h = absurd (omega arith)
first_passes (suc n) f h = go (ltb (first_of n f) n) refl (f n) refl (λ l. first_passes n f l) h
  where
    go : (b : Bool) → ltb (first_of n f) n ≡ b → (d : Bool) → f n ≡ d → (first_of n f < n → f (first_of n f) ≡ true) → cond b (first_of n f) (cond d n (suc n)) < suc n → f (cond b (first_of n f) (cond d n (suc n))) ≡ true
    go true e d g ih l = ih (ltb-true (first_of n f) n e)
    go false e true g ih l = g
    go false e false g ih l = absurd (omega arith)

-- the search for the first number that passes
pub first-none : (f : ℕ → Bool) → first_of 0 f ≡ 0
unfolding first_of
first-none f = refl

pub first-none-more : (f : ℕ → Bool) (n : ℕ) → first_of n f ≡ n → f n ≡ false → first_of (n + 1) f ≡ n + 1
unfolding first_of
first-none-more f n h e =
    ap (λ (k : ℕ). first_of k f) (add-one n)
    ∙ ap₂ (λ (b d : Bool). cond b (first_of n f) (cond d n (suc n))) (le-ltb (first_of n f) n (omega arith)) e ∙ sym (add-one n)

first-at : (f : ℕ → Bool) (n : ℕ) → first_of n f ≡ n → f n ≡ true → first_of (suc n) f ≡ n
unfolding first_of
first-at f n h e = ap₂ (λ (b d : Bool). cond b (first_of n f) (cond d n (suc n))) (le-ltb (first_of n f) n (omega arith)) e

first-stays : (f : ℕ → Bool) (k n : ℕ) → first_of n f ≡ k → k < n → first_of (suc n) f ≡ k
unfolding first_of
first-stays f k n h l = ap (λ (b : Bool). cond b (first_of n f) (cond (f n) n (suc n))) (lt-ltb (first_of n f) n (omega arith)) ∙ h

pub first_found : (f : ℕ → Bool) (k n : ℕ) → k < n → first_of k f ≡ k → f k ≡ true → first_of n f ≡ k
first_found f k n l h e = le_ind (λ (m : ℕ). first_of m f ≡ k) (first-at f k h e) (λ m g i. first-stays f k m i g) n l

-- ---- the search, over tests that agree

pub first-ext : (n : ℕ) (f g : ℕ → Bool) → ((e : ℕ) → e < n → f e ≡ g e) → first_of n f ≡ first_of n g
unfolding first_of
first-ext zero f g h = refl
first-ext (suc n) f g h =
    ap₂ (λ (k : ℕ) (b : Bool). cond (ltb k n) k (cond b n (suc n))) (first-ext n f g (λ e l. h e (omega arith))) (h n (le_refl (suc n)))

-- ---- the same words, and the same key

pub words_same : (s t : List ℕ) → same_words s t ≡ true → s ≡ t
unfolding same_words
words_same [] [] e = refl
words_same [] (y ∷ t) e = absurd (true≢false (sym e))
words_same (x ∷ s) [] e = absurd (true≢false (sym e))
words_same (x ∷ s) (y ∷ t) e =
    let both = (and-eq-true_iff (eqb x y) (same_words s t)).0 e in
    ap₂ (λ (a : ℕ) (l : List ℕ). a ∷ l) (eqb-true x y both.0) (words_same s t both.1)

-- keys that pass the test are the same
pub key-same : (k j : Key) → same_key k j ≡ true → k ≡ j
unfolding same_key
key-same k j e =
    let p = (and-eq-true_iff (same_words k.live j.live) _).0 e in
    let q = (and-eq-true_iff (same_words k.held j.held) _).0 p.1 in
    let r = (and-eq-true_iff (eqb k.pending j.pending) _).0 q.1 in
    λ i. record {
      live = words_same k.live j.live p.0 i;
      held = words_same k.held j.held q.0 i;
      pending = eqb-true k.pending j.pending r.0 i;
      last = side_same k.last j.last r.1 i;
    }

-- a list of four words is its words
pub four-words : (s : List ℕ) → length s ≡ 4 → s ≡ words_at s 0
four-words s h = ext_get_or 0 s (words_at s 0) h (λ w l. below-four (λ (i : ℕ). get_or s i 0 ≡ get_or (words_at s 0) i 0) refl refl refl refl w (omega arith))

and_last : (b : Bool) → (b && true) ≡ b
and_last true = refl
and_last false = refl

pub four_same : (s t : List ℕ) → length s ≡ 4 → length t ≡ 4
    → (eqb (get_or s 0 0) (get_or t 0 0) && (eqb (get_or s 1 0) (get_or t 1 0) && (eqb (get_or s 2 0) (get_or t 2 0) && eqb (get_or s 3 0) (get_or t 3 0)))) ≡ same_words s t
unfolding same_words
four_same s t h l =
    ap (λ (b : Bool). eqb (get_or s 0 0) (get_or t 0 0) && (eqb (get_or s 1 0) (get_or t 1 0) && (eqb (get_or s 2 0) (get_or t 2 0) && b))) (sym (and_last (eqb (get_or s 3 0) (get_or t 3 0))))
    ∙ ap₂ same_words (sym (four-words s h)) (sym (four-words t l))
