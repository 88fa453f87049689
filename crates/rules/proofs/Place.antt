-- The place of a new rule among rules with rising ids: those before it have smaller ids, those from
-- there on do not. A test that holds of a number whenever it holds of a larger one holds up to its
-- count and no further.
use mathlib.Core.Path.{◌≡◌, refl, sym, ap, ap₂, ◌∙◌}
use mathlib.Core.Bool.{Bool, true, false}
use mathlib.Core.List.{List}
use Prim.Native.Nat.{ℕ, zero, suc, ◌+◌, ◌≤◌, ◌<◌}
use native.Mathlib.Nat.{not-suc-le-zero}
use native.Mathlib.Decide.{dec_lt}
use native.Mathlib.Omega.{arith}
use lib.Dec.{ltb}
use borrow.Author.Tests.{lt-ltb, le-ltb, ltb-true, ltb-false}
use Rattle.sets.specs.Set.{count, as_one}
use Rattle.sets.proofs.Laws.{count-le}
use Rattle.table.specs.Layout.{rules_of, id_word}
use Rattle.table.proofs.Test.{Passes}
use Rattle.rules.specs.Words.{place_of}

-- the count of a test that holds below k and not from there on
pub count-to : (n k : ℕ) (f : ℕ → Bool) → k ≤ n → ((a : ℕ) → a < k → f a ≡ true) → ((a : ℕ) → k ≤ a → a < n → f a ≡ false) → count n f ≡ k
unfolding count
count-to zero k f h yes-below no_above = omega arith
count-to (suc n) k f h yes-below no_above =
    go (dec_lt n k) (λ l. count-to n k f l yes-below (λ a x y. no_above a x (omega arith)))
    (λ l. count-to n n f (omega arith) (λ a x. yes-below a (omega arith)) (λ a x y. absurd (omega arith)))
  where
    go : Dec (n < k) → (k ≤ n → count n f ≡ k) → (n < k → count n f ≡ n) → count n f + as_one (f n) ≡ k
    go (yes l) low high = let e : n + 1 ≡ k = omega arith in ap₂ (λ (x : ℕ) (b : Bool). x + as_one b) (high l) (yes-below n l) ∙ e
    go (no l) low high =
        let e : k + 0 ≡ k = omega arith in
        ap₂ (λ (x : ℕ) (b : Bool). x + as_one b) (low (omega arith)) (no_above n (omega arith) (omega arith)) ∙ e

-- a test that holds of every smaller number holds below its count
pub count-below : (n : ℕ) (f : ℕ → Bool) → ((a b : ℕ) → a < b → b < n → f b ≡ true → f a ≡ true) → (a : ℕ) → a < n → f a ≡ ltb a (count n f)
unfolding count
count-below zero f down a h = absurd (not-suc-le-zero h)
count-below (suc n) f down a h = go (f n) refl (count-below n f (λ x y l m. down x y l (omega arith)) a) (dec_lt a n)
  where
    go : (b : Bool) → f n ≡ b → (a < n → f a ≡ ltb a (count n f)) → Dec (a < n) → f a ≡ ltb a (count n f + as_one (f n))
    go true e ih d =
        let every : ((x : ℕ) → x < n → f x ≡ true) = λ x l. down x n l (omega arith) e in
        let whole : count n f ≡ n = count-to n n f (omega arith) every (λ x l m. absurd (omega arith)) in
        pick d every ∙ sym (ap (λ (b : Bool). ltb a (count n f + as_one b)) e ∙ lt-ltb a (count n f + 1) (omega arith))
      where
        pick : Dec (a < n) → ((x : ℕ) → x < n → f x ≡ true) → f a ≡ true
        pick (yes l) every = every a l
        pick (no l) every = let z : a ≡ n = omega arith in ap f z ∙ e
    go false e ih d =
        let z : count n f + 0 ≡ count n f = omega arith in
        pick d ∙ sym (ap (λ (b : Bool). ltb a (count n f + as_one b)) e ∙ ap (ltb a) z)
      where
        pick : Dec (a < n) → f a ≡ ltb a (count n f)
        pick (yes l) = ih l
        pick (no l) = let z : a ≡ n = omega arith in ap f z ∙ e ∙ sym (le-ltb a (count n f) (omega (arith, count-le n f)))

module _ (t : List ℕ) (id : ℕ) where
  pub place-le : place_of t id ≤ rules_of t
  unfolding place_of
  place-le = count-le (rules_of t) (λ a. ltb (id_word t a) id)

  module _ (p : Passes t) where
    at : (a : ℕ) → a < rules_of t → ltb (id_word t a) id ≡ ltb a (place_of t id)
    unfolding place_of
    at a h =
        count-below (rules_of t) (λ a. ltb (id_word t a) id)
        (λ x y l m e. lt-ltb (id_word t x) id (omega (arith, p.rising x y l m, ltb-true (id_word t y) id e))) a h

    -- ids before the place are smaller
    pub place-before : (a : ℕ) → a < place_of t id → id_word t a < id
    place-before a h = ltb-true (id_word t a) id (at a (omega (arith, place-le)) ∙ lt-ltb a (place_of t id) h)

    -- ids from the place on are not
    pub place_after : (a : ℕ) → place_of t id ≤ a → a < rules_of t → id ≤ id_word t a
    place_after a h l = ltb-false (id_word t a) id (at a l ∙ le-ltb a (place_of t id) h)
