-- Words given by their digits: what the laws of sets leave out. A word that gets one digit a turn
-- is the word of the test below the turn.
use Rattle.std.proofs.Common.{◌≡◌, ℕ, ◌+◌, ◌-◌, ◌^◌, ◌<◌, ◌≤◌, Bool, true, false, not, ◌&&◌, ◌||◌, eqb, ltb, leb, sym, refl, ap, ◌∙◌, ap₂, lt_of_le_of_lt, add-zero, arith, le-ltb, lt-ltb, eq-eqb, ne_eqb, le-leb}
use mathlib.Core.Bool.{or-false}
use native.Mathlib.Decide.{dec_lt, ℕ_discrete}
use lib.Bits.{bit_and, bit_or, or_lt, and_le_l}
use lib.Pow.{pow-lt}
use borrow.Author.Tests.{lt-leb}
use Rattle.sets.specs.Set.{on, word_of, count}
use Rattle.sets.proofs.Bits.{on_or, on_and, on-not, on-zero, on-pow, on-word_of, word_of-ext, word_of-on, word_of-lt, count_add, count-never}

-- ---- numbers below n

-- what does not hold from m on is counted below m
pub count-below : (m n : ℕ) (f : ℕ → Bool) → m ≤ n → ((k : ℕ) → m ≤ k → k < n → f k ≡ false) → count n f ≡ count m f
count-below m n f h e =
    let whole : n ≡ m + (n - m) = omega arith in
    ap (λ (i : ℕ). count i f) whole ∙ count_add m (n - m) f
    ∙ ap (λ (x : ℕ). count m f + x) (count-never (n - m) (λ k. f (m + k)) (λ k l. e (m + k) (omega arith) (omega arith))) ∙ add-zero (count m f)

-- not below n is from n on
pub not-below : (q n : ℕ) → not (ltb q n) ≡ leb n q
not-below q n = go (dec_lt q n)
  where
    go : Dec (q < n) → not (ltb q n) ≡ leb n q
    go (yes h) = ap not (lt-ltb q n h) ∙ sym (lt-leb n q h)
    go (no h) = ap not (le-ltb q n (omega arith)) ∙ sym (le-leb n q (omega arith))

-- ---- a word by its digits

pub word-is : (w : ℕ) (f : ℕ → Bool) → w < 2 ^ 64 → ((k : ℕ) → k < 64 → on w k ≡ f k) → w ≡ word_of 64 f
word-is w f h e = sym (word_of-on 64 w h) ∙ word_of-ext 64 (on w) f e

-- the digits of f below n, and no other
abbrev pub places_below : ℕ → (ℕ → Bool) → ℕ
places_below n f = word_of 64 (λ k. ltb k n && f k)

module _ (f : ℕ → Bool) where
  pub places-none : 0 ≡ places_below 0 f
  places-none = word-is 0 (λ k. ltb k 0 && f k) (omega arith) (λ k h. on-zero k ∙ sym (ap (λ (b : Bool). b && f k) (le-ltb k 0 (omega arith))))

  pub places-hit : (n : ℕ) → n < 64 → f n ≡ true → bit_or (places_below n f) (2 ^ n) ≡ places_below (n + 1) f
  places-hit n l e =
      word-is (bit_or (places_below n f) (2 ^ n)) (λ k. ltb k (n + 1) && f k)
      (or_lt 64 (places_below n f) (2 ^ n) (word_of-lt 64 (λ k. ltb k n && f k)) (pow-lt l))
      (λ k h. on_or (places_below n f) (2 ^ n) k ∙ ap₂ (λ (x y : Bool). x || y) (on-word_of 64 (λ k. ltb k n && f k) k h) (on-pow n k) ∙ digit k (dec_lt k n) (ℕ_discrete k n))
    where
      digit : (k : ℕ) → Dec (k < n) → Dec (k ≡ n) → ((ltb k n && f k) || eqb k n) ≡ (ltb k (n + 1) && f k)
      digit k (yes h) d =
          ap₂ (λ (x y : Bool). (x && f k) || y) (lt-ltb k n h) (ne_eqb k n (λ q. omega arith)) ∙ or-false (f k)
          ∙ sym (ap (λ (x : Bool). x && f k) (lt-ltb k (n + 1) (omega arith)))
      digit k (no h) (yes q) =
          ap₂ (λ (x y : Bool). (x && f k) || y) (le-ltb k n (omega arith)) (eq-eqb k n q)
          ∙ sym (ap₂ (λ (x y : Bool). x && y) (lt-ltb k (n + 1) (omega arith)) (ap f q ∙ e))
      digit k (no h) (no p) =
          ap₂ (λ (x y : Bool). (x && f k) || y) (le-ltb k n (omega arith)) (ne_eqb k n p)
          ∙ sym (ap (λ (x : Bool). x && f k) (le-ltb k (n + 1) (omega arith)))

  pub places-miss : (n : ℕ) → f n ≡ false → places_below n f ≡ places_below (n + 1) f
  places-miss n e = word_of-ext 64 (λ k. ltb k n && f k) (λ k. ltb k (n + 1) && f k) (λ k h. digit k (dec_lt k n) (ℕ_discrete k n))
    where
      digit : (k : ℕ) → Dec (k < n) → Dec (k ≡ n) → (ltb k n && f k) ≡ (ltb k (n + 1) && f k)
      digit k (yes h) d = ap (λ (x : Bool). x && f k) (lt-ltb k n h ∙ sym (lt-ltb k (n + 1) (omega arith)))
      digit k (no h) (yes q) =
          ap (λ (x : Bool). x && f k) (le-ltb k n (omega arith))
          ∙ sym (ap₂ (λ (x y : Bool). x && y) (lt-ltb k (n + 1) (omega arith)) (ap f q ∙ e))
      digit k (no h) (no p) = ap (λ (x : Bool). x && f k) (le-ltb k n (omega arith) ∙ sym (le-ltb k (n + 1) (omega arith)))

  pub places-small : (n : ℕ) → places_below n f < 2 ^ 64
  places-small n = word_of-lt 64 (λ k. ltb k n && f k)

  -- a place below both bounds
  pub on-places : (n k : ℕ) → k < n → n ≤ 64 → on (places_below n f) k ≡ f k
  on-places n k h l = on-word_of 64 (λ k. ltb k n && f k) k (omega arith) ∙ ap (λ (b : Bool). b && f k) (lt-ltb k n h)

  pub on-places-past : (n k : ℕ) → n ≤ k → k < 64 → on (places_below n f) k ≡ false
  on-places-past n k h l = on-word_of 64 (λ k. ltb k n && f k) k l ∙ ap (λ (b : Bool). b && f k) (le-ltb k n h)

-- `a & !b`
pub on-without : (a b k : ℕ) → b < 2 ^ 64 → k < 64 → on (bit_and a (2 ^ 64 - 1 - b)) k ≡ (on a k && not (on b k))
on-without a b k h l = on_and a (2 ^ 64 - 1 - b) k ∙ ap (λ (x : Bool). on a k && x) (on-not 64 b k h l)

-- the digits of f that are not digits of g
pub places-without : (n : ℕ) (f g : ℕ → Bool) → bit_and (places_below n f) (2 ^ 64 - 1 - places_below n g) ≡ places_below n (λ k. f k && not (g k))
places-without n f g =
    word-is (bit_and (places_below n f) (2 ^ 64 - 1 - places_below n g)) (λ k. ltb k n && (f k && not (g k)))
    (lt_of_le_of_lt (and_le_l (places_below n f) (2 ^ 64 - 1 - places_below n g)) (places-small f n))
    (λ k h. on-without (places_below n f) (places_below n g) k (places-small g n) h
    ∙ ap₂ (λ (x y : Bool). x && not y) (on-word_of 64 (λ k. ltb k n && f k) k h) (on-word_of 64 (λ k. ltb k n && g k) k h) ∙ digit (ltb k n) (f k) (g k))
  where
    digit : (b x y : Bool) → ((b && x) && not (b && y)) ≡ (b && (x && not y))
    digit true x y = refl
    digit false x y = refl
