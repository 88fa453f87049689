-- Numbers and their bytes, both ways: the bytes of a number read as that number (`number_of`), and
-- a number that was read has the bytes that stand there (`byte-number`). Each goes by the lowest
-- byte and the number above it.
use mathlib.Core.Path.{◌≡◌, refl, sym, ap, ap₂, ◌∙◌}
use mathlib.Core.List.{List, ◌∷◌, ◌++◌}
use Prim.Native.Nat.{ℕ, zero, suc, ◌+◌, ◌-◌, ◌*◌, ◌/◌, ◌%◌, ◌^◌, ◌≤◌, ◌<◌, suc-le-suc}
use native.Mathlib.Nat.{not-suc-le-zero, le_of_suc-le-suc, add-zero, mod-lt, zero-lt-suc}
use native.Mathlib.Omega.{arith}
use lib.Arith.{lt-one}
use lib.Dec.{lit<}
use lib.ListN.{length, get_or}
use lib.Pow.{pow-add, shr-shr, pow_mono}
use lib.Seq.{ext_get_or, get_or-append-add}
use Rattle.card.specs.Bytes.{list_of, byte_of, bytes_of, number_at}
use Rattle.card.proofs.Checksum.{AreBytes}

-- ---- a list given by its elements

pub length-list_of : (n : ℕ) (f : ℕ → ℕ) → length (list_of n f) ≡ n
unfolding list_of
length-list_of zero f = refl
length-list_of (suc n) f = ap suc (length-list_of n (λ k. f (suc k)))

pub get_d-list_of : (n : ℕ) (f : ℕ → ℕ) (k : ℕ) → k < n → get_or (list_of n f) k 0 ≡ f k
unfolding list_of
get_d-list_of zero f k h = absurd (not-suc-le-zero h)
get_d-list_of (suc n) f zero h = refl
get_d-list_of (suc n) f (suc k) h = get_d-list_of n (λ k. f (suc k)) k (le_of_suc-le-suc h)

pub list_of-ext : (n : ℕ) (f g : ℕ → ℕ) → ((k : ℕ) → k < n → f k ≡ g k) → list_of n f ≡ list_of n g
unfolding list_of
list_of-ext zero f g e = refl
list_of-ext (suc n) f g e = ap₂ ◌∷◌ (e zero (zero-lt-suc n)) (list_of-ext n (λ k. f (suc k)) (λ k. g (suc k)) (λ k l. e (suc k) (suc-le-suc l)))

-- a list is the one of its elements
pub list_of-is : (n : ℕ) (f : ℕ → ℕ) (s : List ℕ) → length s ≡ n → ((k : ℕ) → k < n → get_or s k 0 ≡ f k) → s ≡ list_of n f
list_of-is n f s l e =
    ext_get_or 0 s (list_of n f) (l ∙ sym (length-list_of n f)) (λ k h. e k (omega arith) ∙ sym (get_d-list_of n f k (omega arith)))

-- what stands behind n elements
pub get_d_past : (p s : List ℕ) (n k : ℕ) → length p ≡ n → get_or (p ++ s) (n + k) 0 ≡ get_or s k 0
get_d_past p s n k e = ap (λ (m : ℕ). get_or (p ++ s) (m + k) 0) (sym e) ∙ get_or-append-add p s k 0

-- ---- the bytes of a number

pub length-bytes_of : (n x : ℕ) → length (bytes_of n x) ≡ n
unfolding bytes_of
length-bytes_of n x = length-list_of n (byte_of x)

pub get_d-bytes_of : (n x k : ℕ) → k < n → get_or (bytes_of n x) k 0 ≡ byte_of x k
unfolding bytes_of
get_d-bytes_of n x k h = get_d-list_of n (byte_of x) k h

pub byte_low : (x : ℕ) → byte_of x 0 ≡ x % 256
byte_low x = omega arith

pub byte_high : (x j : ℕ) → byte_of x (suc j) ≡ byte_of (x / 256) j
byte_high x j =
    let e : 8 * suc j ≡ 8 + 8 * j = omega arith in
    ap (λ (y : ℕ). y % 256) (ap (λ (k : ℕ). x / 2 ^ k) e ∙ sym (shr-shr x 8 (8 * j)))

pub byte_small : (x j : ℕ) → byte_of x j < 256
byte_small x j = mod-lt (x / 2 ^ (8 * j)) (lit< tt)

-- n bytes more have 256 times as many numbers
more : (n : ℕ) → 2 ^ (8 * suc n) ≡ 2 ^ (8 * n) * 256
more n =
    let e : 8 * suc n ≡ 8 * n + 8 = omega arith in
    ap (λ (k : ℕ). 2 ^ k) e ∙ pow-add 2 (8 * n) 8

-- ---- the number in some bytes

-- the bytes of x read as x
pub number_of : (s : List ℕ) (n at x : ℕ) → x < 2 ^ (8 * n) → ((j : ℕ) → j < n → get_or s (at + j) 0 ≡ byte_of x j) → number_at s at n ≡ x
unfolding number_at
number_of s zero at x h e = sym (lt-one h)
number_of s (suc n) at x h e =
    let low : get_or s at 0 ≡ x % 256 = ap (λ (k : ℕ). get_or s k 0) (sym (add-zero at)) ∙ e 0 (zero-lt-suc n) ∙ byte_low x in
    let high : number_at s (suc at) n ≡ x / 256 = number_of s n (suc at) (x / 256) (omega (arith, more n))
    (λ j l.
    let next : suc at + j ≡ at + suc j = omega arith in
    ap (λ (k : ℕ). get_or s k 0) next ∙ e (suc j) (suc-le-suc l) ∙ byte_high x j) in
    omega (arith, low, high)

-- the number that was read has those bytes
pub byte-number : (s : List ℕ) → AreBytes s → (n at j : ℕ) → j < n → byte_of (number_at s at n) j ≡ get_or s (at + j) 0
unfolding number_at
byte-number s h zero at j l = absurd (not-suc-le-zero l)
byte-number s h (suc n) at zero l =
    let e : (get_or s at 0 + number_at s (suc at) n * 256) % 256 ≡ get_or s at 0 = omega (arith, h at) in
    byte_low (get_or s at 0 + number_at s (suc at) n * 256) ∙ e ∙ ap (λ (k : ℕ). get_or s k 0) (sym (add-zero at))
byte-number s h (suc n) at (suc j) l =
    let e : (get_or s at 0 + number_at s (suc at) n * 256) / 256 ≡ number_at s (suc at) n = omega (arith, h at) in
    let next : suc at + j ≡ at + suc j = omega arith in
    byte_high (get_or s at 0 + number_at s (suc at) n * 256) j ∙ ap (λ (x : ℕ). byte_of x j) e
    ∙ byte-number s h n (suc at) j (le_of_suc-le-suc l) ∙ ap (λ (k : ℕ). get_or s k 0) next

-- n bytes make a number below 2 ^ (8 n)
pub number_small : (s : List ℕ) → AreBytes s → (at n : ℕ) → number_at s at n < 2 ^ (8 * n)
unfolding number_at
number_small s h at zero = lit< tt
number_small s h at (suc n) = omega (arith, h at, number_small s h (suc at) n, more n)

-- it depends on those bytes alone
pub number_same : (s t : List ℕ) (n at : ℕ) → ((j : ℕ) → j < n → get_or s (at + j) 0 ≡ get_or t (at + j) 0) → number_at s at n ≡ number_at t at n
unfolding number_at
number_same s t zero at e = refl
number_same s t (suc n) at e =
    ap₂ (λ (x y : ℕ). x + y * 256)
    (ap (λ (k : ℕ). get_or s k 0) (sym (add-zero at)) ∙ e 0 (zero-lt-suc n) ∙ ap (λ (k : ℕ). get_or t k 0) (add-zero at))
    (number_same s t n (suc at)
    (λ j l.
    let next : suc at + j ≡ at + suc j = omega arith in
    ap (λ (k : ℕ). get_or s k 0) next ∙ e (suc j) (suc-le-suc l) ∙ ap (λ (k : ℕ). get_or t k 0) (sym next)))

-- ---- the loop, from the highest byte down

-- what the loop keeps: x is the number in the bytes from j on
abbrev pub Taken : (s : List ℕ) (at n x j : ℕ) → Type 0
Taken s at n x j = (j ≤ n) × (x ≡ number_at s (at + j) (n - j))

pub taken_none : (s : List ℕ) (at n : ℕ) → Taken s at n 0 n
unfolding number_at
taken_none s at n =
    let e : 0 ≡ n - n = omega arith in
    (omega arith, ap (number_at s (at + n)) e)

pub taken-one : (s : List ℕ) (at n x j : ℕ) → Taken s at n x j → 0 < j → Taken s at n (x * 256 + get_or s (at + (j - 1)) 0) (j - 1)
unfolding number_at
taken-one s at n x j v l =
    let e : suc (n - j) ≡ n - (j - 1) = omega arith in
    let next : at + j ≡ suc (at + (j - 1)) = omega arith in
    let above : x ≡ number_at s (suc (at + (j - 1))) (n - j) = v.1 ∙ ap (λ (k : ℕ). number_at s k (n - j)) next in
    let sum : x * 256 + get_or s (at + (j - 1)) 0 ≡ number_at s (at + (j - 1)) (suc (n - j)) = omega (arith, above) in
    (omega arith, sum ∙ ap (number_at s (at + (j - 1))) e)

pub taken-all : (s : List ℕ) (at n x j : ℕ) → Taken s at n x j → j ≤ 0 → x ≡ number_at s at n
taken-all s at n x j v l =
    let e : at + j ≡ at = omega arith in
    let f : n - j ≡ n = omega arith in
    v.1 ∙ ap₂ (number_at s) e f

-- one byte more still fits 64 bits
pub taken-fits : (s : List ℕ) → AreBytes s → (at n x j : ℕ) → Taken s at n x j → 0 < j → n ≤ 8 → x < 2 ^ 56
taken-fits s h at n x j v l m =
    let few : 2 ^ (8 * (n - j)) ≤ 2 ^ 56 = pow_mono {i = 8 * (n - j)} {j = 56} (omega arith) in
    omega (arith, v.1, number_small s h (at + j) (n - j), few)
