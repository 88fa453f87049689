-- The binary digits of one word: what bitwise operations, counts and trailing zeros do to them, and
-- a word made from its digits. Each law goes by the lowest digit and the half above it (`on-suc`),
-- or through the library's laws of shifts.
use mathlib.Core.Path.{◌≡◌, refl, sym, ap, ap₂, ◌∙◌, subst}
use mathlib.Core.Bool.{Bool, true, false, true≢false, not, ◌||◌, ◌&&◌}
use Prim.Native.Nat.{ℕ, zero, suc, ◌+◌, ◌-◌, ◌*◌, ◌/◌, ◌%◌, ◌^◌, ◌≤◌, ◌<◌, suc-le-suc, zero-le, min, max}
use native.Mathlib.Nat.{one-mul, mod-lt, zero-lt-suc, max-le, le_of_suc-le-suc, lt_of_le_of_lt, min-le_left, zero-div, div-eq_of_lt, pow-suc, not-suc-le-zero, add-zero, add-suc, add_assoc, add_comm, lt_of_lt_of_le, mul_assoc, zero-min, min-zero, zero-add}
use native.Mathlib.Numerals.{add-one, one-add}
use native.Mathlib.Omega.{arith}
use native.Mathlib.Decide.{dec_lt}
use lib.Dec.{lit<, eqb, ltb, leb-suc-suc, eqb-suc-suc}
use lib.Arith.{digits_mod, lt-one}
use lib.Pow.{pow_pos, pow_mono, shl_exact, shl-shr, shr-shr, shr_lt}
use lib.Bits.{bit_and, bit_or, and_step, or_step, and_shr, or_shr, and_self, shifted_half, shifted_even}
use lib.Count.{ones, ones_step, count_trailing_zeros, under}
use borrow.Author.Tests.{ne_eqb, eqb-true, lt-ltb, le-ltb}
use Rattle.sets.specs.Set.{on, as_one, word_of, count}

two : zero < 2
two = zero-lt-suc 1

-- ---- the lowest digit, and the half above it

pub on-suc : (w k : ℕ) → on w (suc k) ≡ on (w / 2) k
unfolding on
on-suc w k = ap (λ (x : ℕ). eqb (x % 2) 1) (ap (λ (i : ℕ). w / 2 ^ i) (sym (one-add k)) ∙ sym (shr-shr w 1 k))

pub on-shr : (w j k : ℕ) → on (w / 2 ^ j) k ≡ on w (j + k)
unfolding on
on-shr w j k = ap (λ (x : ℕ). eqb (x % 2) 1) (shr-shr w j k)

on-low : (w d : ℕ) → w % 2 ≡ d → on w 0 ≡ eqb d 1
unfolding on
on-low w d e =
    let one : w / 2 ^ 0 ≡ w = omega arith in
    ap (λ (x : ℕ). eqb (x % 2) 1) one ∙ ap (λ (x : ℕ). eqb x 1) e

-- the lowest digit as a number
low_digit : (w : ℕ) → as_one (on w 0) ≡ w % 2
low_digit w = go (w % 2) refl
  where
    go : (d : ℕ) → w % 2 ≡ d → as_one (on w 0) ≡ w % 2
    go zero e = ap as_one (on-low w 0 e) ∙ sym e
    go (suc zero) e = ap as_one (on-low w 1 e) ∙ sym e
    go (suc (suc d)) e = absurd (omega (arith, mod-lt w two))

half_lt : (n w : ℕ) → w < 2 ^ suc n → w / 2 < 2 ^ n
half_lt n w h = shr_lt n 1 (subst (λ (x : ℕ). w < 2 ^ x) (sym (add-one n)) h)

-- a set digit is below the number's length
pub on-bound : (n w k : ℕ) → w < 2 ^ n → on w k ≡ true → k < n
unfolding on
on-bound n w k h e = go (dec_lt k n)
  where
    go : Dec (k < n) → k < n
    go (yes l) = l
    go (no l) =
        let z : w / 2 ^ k ≡ 0 = div-eq_of_lt (lt_of_lt_of_le h (pow_mono (omega arith))) in
        let o : w / 2 ^ k % 2 ≡ 1 = eqb-true (w / 2 ^ k % 2) 1 e in
        absurd (omega (arith, z, o))

-- ---- the bitwise operations

-- what holds of 0 and 1 holds of any two digits
two_digits : (P : ℕ → ℕ → Type 0) → P 0 0 → P 0 1 → P 1 0 → P 1 1 → (x y : ℕ) → x < 2 → y < 2 → P x y
two_digits P a b c d zero zero p q = a
two_digits P a b c d zero (suc zero) p q = b
two_digits P a b c d zero (suc (suc y)) p q = absurd (omega arith)
two_digits P a b c d (suc zero) zero p q = c
two_digits P a b c d (suc zero) (suc zero) p q = d
two_digits P a b c d (suc zero) (suc (suc y)) p q = absurd (omega arith)
two_digits P a b c d (suc (suc x)) y p q = absurd (omega arith)

pub on_or : (a b k : ℕ) → on (bit_or a b) k ≡ (on a k || on b k)
unfolding on
on_or a b k =
    ap (λ (x : ℕ). eqb (x % 2) 1) (or_shr a b k ∙ or_step x y)
    ∙ ap (λ (d : ℕ). eqb d 1) (digits_mod (bit_or (x / 2) (y / 2)) (suc-le-suc (max-le (le_of_suc-le-suc (mod-lt x two)) (le_of_suc-le-suc (mod-lt y two)))))
    ∙ two_digits (λ (d e : ℕ). eqb (max d e) 1 ≡ (eqb d 1 || eqb e 1)) refl refl refl refl (x % 2) (y % 2) (mod-lt x two) (mod-lt y two)
  where
    x : ℕ
    x = a / 2 ^ k

    y : ℕ
    y = b / 2 ^ k

pub on_and : (a b k : ℕ) → on (bit_and a b) k ≡ (on a k && on b k)
unfolding on
on_and a b k =
    ap (λ (x : ℕ). eqb (x % 2) 1) (and_shr a b k ∙ and_step x y)
    ∙ ap (λ (d : ℕ). eqb d 1) (digits_mod (bit_and (x / 2) (y / 2)) (lt_of_le_of_lt (min-le_left (x % 2) (y % 2)) (mod-lt x two)))
    ∙ two_digits (λ (d e : ℕ). eqb (min d e) 1 ≡ (eqb d 1 && eqb e 1)) refl refl refl refl (x % 2) (y % 2) (mod-lt x two) (mod-lt y two)
  where
    x : ℕ
    x = a / 2 ^ k

    y : ℕ
    y = b / 2 ^ k

-- `!w`, for a w of n digits
pub on-not : (n w k : ℕ) → w < 2 ^ n → k < n → on (2 ^ n - 1 - w) k ≡ not (on w k)
on-not zero w k h l = absurd (not-suc-le-zero l)
on-not (suc n) w zero h l = go (w % 2) refl
  where
    flipped : (d : ℕ) → w % 2 + d ≡ 1 → (2 ^ suc n - 1 - w) % 2 ≡ d
    flipped d e = omega (arith, pow-suc 2 n)

    go : (d : ℕ) → w % 2 ≡ d → on (2 ^ suc n - 1 - w) 0 ≡ not (on w 0)
    go zero e = on-low (2 ^ suc n - 1 - w) 1 (flipped 1 (omega arith)) ∙ ap not (sym (on-low w 0 e))
    go (suc zero) e = on-low (2 ^ suc n - 1 - w) 0 (flipped 0 (omega arith)) ∙ ap not (sym (on-low w 1 e))
    go (suc (suc d)) e = absurd (omega (arith, mod-lt w two))
on-not (suc n) w (suc k) h l =
    let half : (2 ^ suc n - 1 - w) / 2 ≡ 2 ^ n - 1 - w / 2 = omega (arith, pow-suc 2 n) in
    on-suc (2 ^ suc n - 1 - w) k ∙ ap (λ (x : ℕ). on x k) half
    ∙ on-not n (w / 2) k (half_lt n w h) (le_of_suc-le-suc l) ∙ ap not (sym (on-suc w k))

-- ---- words with known digits

-- `1 << k`
pub shl_one : (k : ℕ) → k < 64 → 1 * 2 ^ k % 2 ^ 64 ≡ 2 ^ k
shl_one k h = shl_exact 1 k 64 (lit< tt) (omega arith) ∙ one-mul (2 ^ k)

pub on-zero : (k : ℕ) → on 0 k ≡ false
unfolding on
on-zero k = ap (λ (x : ℕ). eqb (x % 2) 1) (zero-div (2 ^ k))

-- the n lowest digits set
pub on-ones : (n k : ℕ) → on (2 ^ n - 1) k ≡ ltb k n
on-ones zero k = on-zero k ∙ sym (le-ltb k 0 zero-le)
on-ones (suc n) zero =
    let odd : (2 ^ suc n - 1) % 2 ≡ 1 = omega (arith, pow-suc 2 n, pow_pos n) in
    on-low (2 ^ suc n - 1) 1 odd ∙ sym (lt-ltb 0 (suc n) (zero-lt-suc n))
on-ones (suc n) (suc k) =
    let half : (2 ^ suc n - 1) / 2 ≡ 2 ^ n - 1 = omega (arith, pow-suc 2 n, pow_pos n) in
    on-suc (2 ^ suc n - 1) k ∙ ap (λ (x : ℕ). on x k) half ∙ on-ones n k ∙ sym (leb-suc-suc (suc k) n)

-- one digit set
pub on-pow : (j k : ℕ) → on (2 ^ j) k ≡ eqb k j
on-pow zero zero = on-low 1 1 refl
on-pow zero (suc k) = on-suc 1 k ∙ on-zero k ∙ sym (ne_eqb (suc k) 0 (λ e. omega arith))
on-pow (suc j) zero =
    let even : 2 ^ suc j % 2 ≡ 0 = omega (arith, pow-suc 2 j) in
    on-low (2 ^ suc j) 0 even ∙ sym (ne_eqb 0 (suc j) (λ e. omega arith))
on-pow (suc j) (suc k) =
    let half : 2 ^ suc j / 2 ≡ 2 ^ j = omega (arith, pow-suc 2 j) in
    on-suc (2 ^ suc j) k ∙ ap (λ (x : ℕ). on x k) half ∙ on-pow j k ∙ sym (eqb-suc-suc k j)

-- ---- a word and its digits

pub on-word_of : (n : ℕ) (f : ℕ → Bool) (k : ℕ) → k < n → on (word_of n f) k ≡ f k
unfolding word_of
on-word_of zero f k h = absurd (not-suc-le-zero h)
on-word_of (suc n) f zero h = go (f zero)
  where
    w : ℕ
    w = word_of n (λ k. f (suc k))

    go : (b : Bool) → on (as_one b + w * 2) 0 ≡ b
    go true = on-low (1 + w * 2) 1 (omega arith)
    go false = on-low (0 + w * 2) 0 (omega arith)
on-word_of (suc n) f (suc k) h =
    on-suc (word_of (suc n) f) k ∙ ap (λ (x : ℕ). on x k) (half (f zero)) ∙ on-word_of n (λ k. f (suc k)) k (le_of_suc-le-suc h)
  where
    w : ℕ
    w = word_of n (λ k. f (suc k))

    half : (b : Bool) → (as_one b + w * 2) / 2 ≡ w
    half true = omega arith
    half false = omega arith

pub word_of-ext : (n : ℕ) (f g : ℕ → Bool) → ((k : ℕ) → k < n → f k ≡ g k) → word_of n f ≡ word_of n g
unfolding word_of
word_of-ext zero f g e = refl
word_of-ext (suc n) f g e =
    ap₂ (λ (b : Bool) (x : ℕ). as_one b + x * 2) (e zero (zero-lt-suc n))
    (word_of-ext n (λ k. f (suc k)) (λ k. g (suc k)) (λ k l. e (suc k) (suc-le-suc l)))

pub word_of-on : (n w : ℕ) → w < 2 ^ n → word_of n (on w) ≡ w
unfolding word_of
word_of-on zero w h = sym (lt-one h)
word_of-on (suc n) w h =
    ap₂ (λ (x y : ℕ). x + y * 2) (low_digit w)
    (word_of-ext n (λ k. on w (suc k)) (on (w / 2)) (λ k l. on-suc w k) ∙ word_of-on n (w / 2) (half_lt n w h))
    ∙ whole
  where
    whole : w % 2 + w / 2 * 2 ≡ w
    whole = omega arith

pub word_of-lt : (n : ℕ) (f : ℕ → Bool) → word_of n f < 2 ^ n
unfolding word_of
word_of-lt zero f = zero-lt-suc zero
word_of-lt (suc n) f = go (f zero) (word_of-lt n (λ k. f (suc k)))
  where
    w : ℕ
    w = word_of n (λ k. f (suc k))

    go : (b : Bool) → w < 2 ^ n → as_one b + w * 2 < 2 ^ suc n
    go true h = omega (arith, pow-suc 2 n)
    go false h = omega (arith, pow-suc 2 n)

-- ---- the number of set digits

pub count-ext : (n : ℕ) (f g : ℕ → Bool) → ((k : ℕ) → k < n → f k ≡ g k) → count n f ≡ count n g
unfolding count
count-ext zero f g e = refl
count-ext (suc n) f g e =
    ap₂ (λ (x : ℕ) (b : Bool). x + as_one b) (count-ext n f g (λ k l. e k (omega arith))) (e n (omega arith))

pub count_add : (m n : ℕ) (f : ℕ → Bool) → count (m + n) f ≡ count m f + count n (λ k. f (m + k))
unfolding count
count_add m zero f = ap (λ (k : ℕ). count k f) (add-zero m) ∙ sym (add-zero (count m f))
count_add m (suc n) f =
    ap (λ (k : ℕ). count k f) (add-suc m n) ∙ ap (λ (x : ℕ). x + as_one (f (m + n))) (count_add m n f)
    ∙ add_assoc (count m f) (count n (λ k. f (m + k))) (as_one (f (m + n)))

-- what never holds is not counted, and no more is counted than there are numbers
pub count-never : (n : ℕ) (f : ℕ → Bool) → ((k : ℕ) → k < n → f k ≡ false) → count n f ≡ 0
unfolding count
count-never zero f e = refl
count-never (suc n) f e = rw (e n (omega arith)) (omega (arith, count-never n f (λ k h. e k (omega arith))))

pub count-le : (n : ℕ) (f : ℕ → Bool) → count n f ≤ n
unfolding count
count-le zero f = zero-le
count-le (suc n) f = go (f n) (count-le n f)
  where
    go : (b : Bool) → count n f ≤ n → count n f + as_one b ≤ suc n
    go true h = omega arith
    go false h = omega arith

count-first : (n : ℕ) (f : ℕ → Bool) → count (suc n) f ≡ as_one (f zero) + count n (λ k. f (suc k))
unfolding count
count-first zero f = add_comm 0 (as_one (f zero))
count-first (suc n) f =
    ap (λ (x : ℕ). x + as_one (f (suc n))) (count-first n f)
    ∙ add_assoc (as_one (f zero)) (count n (λ k. f (suc k))) (as_one (f (suc n)))

-- `count_ones` counts the set digits
pub ones-count : (n w : ℕ) → w < 2 ^ n → ones w ≡ count n (on w)
unfolding ones count
ones-count zero w h = ap ones (lt-one h)
ones-count (suc n) w h =
    ones_step w
    ∙ ap₂ (λ (x y : ℕ). x + y) (sym (low_digit w)) (ones-count n (w / 2) (half_lt n w h) ∙ count-ext n (on (w / 2)) (λ k. on w (suc k)) (λ k l. sym (on-suc w k)))
    ∙ sym (count-first n (on w))

-- ---- the lowest set digit: a walk over a word's set digits takes it by its trailing zeros, and
-- clears it by `w & (w - 1)`

-- below the trailing zeros no digit is set
pub zeros-off : (n w k : ℕ) → k < count_trailing_zeros n w → on w k ≡ false
unfolding count_trailing_zeros
zeros-off zero w k h = absurd (not-suc-le-zero h)
zeros-off (suc n) w k h = go (λ i. zeros-off n (w / 2) i) (w % 2) refl k h
  where
    go : ((i : ℕ) → i < count_trailing_zeros n (w / 2) → on (w / 2) i ≡ false)
        → (d : ℕ) → w % 2 ≡ d → (k : ℕ) → k < under d (count_trailing_zeros n (w / 2)) → on w k ≡ false
    go ih zero e zero l = on-low w 0 e
    go ih zero e (suc k) l = on-suc w k ∙ ih k (le_of_suc-le-suc l)
    go ih (suc d) e k l = absurd (not-suc-le-zero l)

-- the digit at the trailing zeros is set
pub zeros-on : (n w : ℕ) → w < 2 ^ n → 0 < w → (count_trailing_zeros n w < n) × (on w (count_trailing_zeros n w) ≡ true)
unfolding count_trailing_zeros
zeros-on zero w h p = absurd (omega arith)
zeros-on (suc n) w h p = go (zeros-on n (w / 2) (half_lt n w h)) (w % 2) refl
  where
    z : ℕ
    z = count_trailing_zeros n (w / 2)

    go : (0 < w / 2 → (z < n) × (on (w / 2) z ≡ true)) → (d : ℕ) → w % 2 ≡ d → (under d z < suc n) × (on w (under d z) ≡ true)
    go ih zero e = let r = ih (omega arith) in (suc-le-suc r.0, on-suc w z ∙ r.1)
    go ih (suc zero) e = (zero-lt-suc n, on-low w 1 e)
    go ih (suc (suc d)) e = absurd (omega (arith, mod-lt w two))

-- `w & (w - 1)` is made in the half above where the lowest digit is 0, and there alone changes
-- nothing where it is 1
clear-even : (w : ℕ) → 0 < w → w % 2 ≡ 0 → bit_and w (w - 1) ≡ bit_and (w / 2) (w / 2 - 1) * 2
clear-even w p e =
    let half : (w - 1) / 2 ≡ w / 2 - 1 = omega arith in
    and_step w (w - 1)
    ∙ ap₂ (λ (x d : ℕ). bit_and (w / 2) x * 2 + min d ((w - 1) % 2)) half e
    ∙ ap (λ (x : ℕ). bit_and (w / 2) (w / 2 - 1) * 2 + x) (zero-min ((w - 1) % 2))
    ∙ add-zero (bit_and (w / 2) (w / 2 - 1) * 2)

clear-odd : (w : ℕ) → w % 2 ≡ 1 → bit_and w (w - 1) ≡ w / 2 * 2
clear-odd w e =
    let half : (w - 1) / 2 ≡ w / 2 = omega arith in
    let even : (w - 1) % 2 ≡ 0 = omega arith in
    and_step w (w - 1)
    ∙ ap₂ (λ (x d : ℕ). bit_and (w / 2) x * 2 + min (w % 2) d) half even
    ∙ ap₂ (λ (x d : ℕ). x * 2 + d) (and_self (w / 2)) (min-zero (w % 2))
    ∙ add-zero (w / 2 * 2)

-- `w & (w - 1)` clears that digit, and so all up to it
pub clear-low : (n w : ℕ) → w < 2 ^ n → 0 < w → bit_and w (w - 1) ≡ w / 2 ^ suc (count_trailing_zeros n w) * 2 ^ suc (count_trailing_zeros n w)
unfolding count_trailing_zeros
clear-low zero w h p = absurd (omega arith)
clear-low (suc n) w h p = go (clear-low n (w / 2) (half_lt n w h)) (w % 2) refl
  where
    k : ℕ
    k = suc (count_trailing_zeros n (w / 2))

    go : (0 < w / 2 → bit_and (w / 2) (w / 2 - 1) ≡ w / 2 / 2 ^ k * 2 ^ k)
        → (d : ℕ) → w % 2 ≡ d → bit_and w (w - 1) ≡ w / 2 ^ suc (under d (count_trailing_zeros n (w / 2))) * 2 ^ suc (under d (count_trailing_zeros n (w / 2)))
    go ih zero e =
        clear-even w p e
        ∙ ap (λ (x : ℕ). x * 2) (ih (omega arith))
        ∙ mul_assoc (w / 2 / 2 ^ k) (2 ^ k) 2
        ∙ ap₂ (λ (x y : ℕ). x * y) (shr-shr w 1 k ∙ ap (λ (i : ℕ). w / 2 ^ i) (one-add k)) (sym (pow-suc 2 k))
    go ih (suc zero) e = clear-odd w e
    go ih (suc (suc d)) e = absurd (omega (arith, mod-lt w two))

-- and so there is one digit less that is 1
pub ones-clear : (n w : ℕ) → w < 2 ^ n → 0 < w → ones w ≡ suc (ones (bit_and w (w - 1)))
ones-clear zero w h p = absurd (omega arith)
ones-clear (suc n) w h p = go (ones-clear n (w / 2) (half_lt n w h)) (w % 2) refl
  where
    twice : (x : ℕ) → ones (x * 2) ≡ ones x
    twice x =
        let even : x * 2 % 2 ≡ 0 = omega arith in
        let half : x * 2 / 2 ≡ x = omega arith in
        ones_step (x * 2) ∙ ap₂ (λ (d y : ℕ). d + ones y) even half ∙ zero-add (ones x)

    go : (0 < w / 2 → ones (w / 2) ≡ suc (ones (bit_and (w / 2) (w / 2 - 1))))
        → (d : ℕ) → w % 2 ≡ d → ones w ≡ suc (ones (bit_and w (w - 1)))
    go ih zero e =
        ones_step w ∙ ap (λ (d : ℕ). d + ones (w / 2)) e ∙ zero-add (ones (w / 2)) ∙ ih (omega arith)
        ∙ ap suc (sym (ap ones (clear-even w p e) ∙ twice (bit_and (w / 2) (w / 2 - 1))))
    go ih (suc zero) e =
        ones_step w ∙ ap (λ (d : ℕ). d + ones (w / 2)) e ∙ one-add (ones (w / 2))
        ∙ ap suc (sym (ap ones (clear-odd w e) ∙ twice (w / 2)))
    go ih (suc (suc d)) e = absurd (omega (arith, mod-lt w two))

-- w with its p lowest digits cleared keeps those above
pub cleared-shr : (w p k : ℕ) → w / 2 ^ p * 2 ^ p / 2 ^ (p + k) ≡ w / 2 ^ (p + k)
cleared-shr w p k = sym (shr-shr (w / 2 ^ p * 2 ^ p) p k) ∙ ap (λ (x : ℕ). x / 2 ^ k) (shl-shr (w / 2 ^ p) p) ∙ shr-shr w p k

pub cleared-on : (w p k : ℕ) → on (w / 2 ^ p * 2 ^ p) (p + k) ≡ on w (p + k)
unfolding on
cleared-on w p k = ap (λ (x : ℕ). eqb (x % 2) 1) (cleared-shr w p k)

-- a number shifted left by p has none below p
pub cleared-off : (x p k : ℕ) → k < p → on (x * 2 ^ p) k ≡ false
cleared-off x zero k h = absurd (not-suc-le-zero h)
cleared-off x (suc p) zero h = on-low (x * 2 ^ suc p) 0 (shifted_even x p)
cleared-off x (suc p) (suc k) h =
    on-suc (x * 2 ^ suc p) k ∙ ap (λ (y : ℕ). on y k) (shifted_half x p) ∙ cleared-off x p k (le_of_suc-le-suc h)

-- a word with no digit set is 0
pub off_zero : (n w : ℕ) → w < 2 ^ n → ((k : ℕ) → k < n → on w k ≡ false) → w ≡ 0
off_zero n zero h e = refl
off_zero n (suc w) h e =
    let low = zeros-on n (suc w) h (zero-lt-suc w) in
    absurd (true≢false (sym low.1 ∙ e (count_trailing_zeros n (suc w)) low.0))
