-- The laws of sets in four words, for every caller. A list of four 64-bit words is the set of its
-- members (`by_digits`), so what an operation makes is read off the words' digits, and two sets
-- with the same members are the same words. The laws of one word's digits are passed on.
use mathlib.Core.Path.{◌≡◌, refl, sym, ap, ap₂, ◌∙◌, subst}
use mathlib.Core.Bool.{Bool, true, false, true≢false, not, ◌||◌, ◌&&◌, or-false, or-true}
use mathlib.Core.Logic.{⊎_elim}
use mathlib.Core.List.{List, [], ◌∷◌}
use Prim.Native.Nat.{ℕ, zero, suc, ◌+◌, ◌-◌, ◌*◌, ◌/◌, ◌%◌, ◌^◌, ◌≤◌, ◌<◌, min}
use native.Mathlib.Nat.{not-suc-le-zero, le_of_suc-le-suc, eq-or-lt_of_le, lt_of_le_of_lt}
use native.Mathlib.Numerals.{add-one}
use native.Mathlib.Decide.{dec_lt, ℕ_discrete}
use native.Mathlib.Omega.{arith}
use lib.Bits.{bit_and, bit_or, or_lt, and_lt, and_le_l, and_le_r, or_add_and}
use lib.Count.{ones}
use lib.Dec.{eqb, leb, ltb, leb-suc-suc}
use lib.ListN.{length, get_or, set, length-set, get_or-eq_default}
use lib.Pow.{pow-lt, ones_sub-lt, ones_lt}
use lib.Seq.{ext_get_or, get_or-set_same, get_or-set_other}
use mir.Syntax.{w64}
use mir.Val.{Fits}
use borrow.Author.Tests.{eq-eqb, ne_eqb, lt-ltb, le-ltb, lt-leb, le-leb, not-true, not-false}
use Rattle.sets.specs.Set.{on, has, word_of, set_of, any, count, empty_set, full_set, inserted, inserted_range, union_of, intersection_of, complement_of, kept_below, is_empty, size_of}
use Rattle.sets.proofs.Bits.{on-word_of, word_of-ext, word_of-on, word_of-lt}
pub use Rattle.sets.proofs.Bits.{on_or, on_and, on-not, on-zero, on-ones, on-pow, count-ext, count_add, count-never, count-le, ones-count}

-- ---- four words of 64 bits

pub record Words (s : List ℕ) : Type 0 where
  pub four : length s ≡ 4
  pub small : (i : ℕ) → i < 4 → get_or s i 0 < 2 ^ 64

-- what owning an array of four 64-bit words tells
pub words-owned : (s : List ℕ) → length s ≡ 4 → ((i : ℕ) → Fits w64 (get_or s i 0)) → Words s
words-owned s l f = record { four = l; small = λ i h. (f i).fits }

-- what holds at 0, 1, 2 and 3 holds below 4
pub below-four : (P : ℕ → Type 0) → P 0 → P 1 → P 2 → P 3 → (i : ℕ) → i < 4 → P i
below-four P a b c d zero h = a
below-four P a b c d (suc zero) h = b
below-four P a b c d (suc (suc zero)) h = c
below-four P a b c d (suc (suc (suc zero))) h = d
below-four P a b c d (suc (suc (suc (suc i)))) h = absurd (omega arith)

pub words-four : (a b c d : ℕ) → a < 2 ^ 64 → b < 2 ^ 64 → c < 2 ^ 64 → d < 2 ^ 64 → Words (a ∷ b ∷ c ∷ d ∷ [])
words-four a b c d h i j k = record { four = refl; small = below-four (λ (n : ℕ). get_or (a ∷ b ∷ c ∷ d ∷ []) n 0 < 2 ^ 64) h i j k }

-- four words from their index
abbrev pub four_of : (ℕ → ℕ) → List ℕ
four_of g = g 0 ∷ g 1 ∷ g 2 ∷ g 3 ∷ []

pub get_d-four_of : (g : ℕ → ℕ) (i : ℕ) → i < 4 → get_or (four_of g) i 0 ≡ g i
get_d-four_of g = below-four (λ (i : ℕ). get_or (four_of g) i 0 ≡ g i) refl refl refl refl

pub words-four_of : (g : ℕ → ℕ) → ((i : ℕ) → i < 4 → g i < 2 ^ 64) → Words (four_of g)
words-four_of g h = words-four (g 0) (g 1) (g 2) (g 3) (h 0 (omega arith)) (h 1 (omega arith)) (h 2 (omega arith)) (h 3 (omega arith))

-- ---- a set is known by its members

-- member i * 64 + k is digit k of word i
pub has-at : (s : List ℕ) (i k : ℕ) → k < 64 → has s (i * 64 + k) ≡ on (get_or s i 0) k
unfolding has
has-at s i k h =
    let word : (i * 64 + k) / 64 ≡ i = omega arith in
    let digit : (i * 64 + k) % 64 ≡ k = omega arith in
    ap₂ (λ (x y : ℕ). on (get_or s x 0) y) word digit

-- word i of `set_of f`
part : (ℕ → Bool) → ℕ → ℕ
part f i = word_of 64 (λ k. f (i * 64 + k))

pub words-set_of : (f : ℕ → Bool) → Words (set_of f)
unfolding set_of part
words-set_of f = words-four_of (part f) (λ i h. word_of-lt 64 (λ k. f (i * 64 + k)))

-- the members of `set_of f` are those of f
pub has-set_of : (f : ℕ → Bool) (q : ℕ) → q < 256 → has (set_of f) q ≡ f q
unfolding has set_of part
has-set_of f q h =
    let whole : q / 64 * 64 + q % 64 ≡ q = omega arith in
    ap (λ (x : ℕ). on x (q % 64)) (get_d-four_of (part f) (q / 64) (omega arith))
    ∙ on-word_of 64 (λ k. f (q / 64 * 64 + k)) (q % 64) (omega arith) ∙ ap f whole

-- four words with the digits of f are `set_of f`
pub by_digits : (s : List ℕ) → Words s → (f : ℕ → Bool) → ((i k : ℕ) → i < 4 → k < 64 → on (get_or s i 0) k ≡ f (i * 64 + k)) → s ≡ set_of f
unfolding set_of part
by_digits s w f e =
    ext_get_or 0 s (four_of (part f)) w.four
    (λ i l.
    let h : i < 4 = omega (arith, w.four) in
    sym (word_of-on 64 (get_or s i 0) (w.small i h))
    ∙ word_of-ext 64 (on (get_or s i 0)) (λ k. f (i * 64 + k)) (λ k m. e i k h m)
    ∙ sym (get_d-four_of (part f) i h))

-- four words are the set of their members
pub set_of-has : (s : List ℕ) → Words s → set_of (has s) ≡ s
set_of-has s w = sym (by_digits s w (has s) (λ i k h l. sym (has-at s i k l)))

-- what f says past 255 does not count
pub set_of-ext : (f g : ℕ → Bool) → ((q : ℕ) → q < 256 → f q ≡ g q) → set_of f ≡ set_of g
set_of-ext f g e =
    by_digits (set_of f) (words-set_of f) g
    (λ i k h l. sym (has-at (set_of f) i k l) ∙ has-set_of f (i * 64 + k) (omega arith) ∙ e (i * 64 + k) (omega arith))

-- four words with the members of f are `set_of f`
pub by_members : (s : List ℕ) → Words s → (f : ℕ → Bool) → ((q : ℕ) → q < 256 → has s q ≡ f q) → s ≡ set_of f
by_members s w f e = sym (set_of-has s w) ∙ set_of-ext (has s) f e

-- two sets with the same members are the same words
pub same-members : (s t : List ℕ) → Words s → Words t → ((q : ℕ) → q < 256 → has s q ≡ has t q) → s ≡ t
same-members s t v w e = by_members s v (has t) e ∙ set_of-has t w

-- a word that is 0 holds no member
pub zero_word : (s : List ℕ) (q : ℕ) → get_or s (q / 64) 0 ≡ 0 → has s q ≡ false
unfolding has
zero_word s q e = ap (λ (x : ℕ). on x (q % 64)) e ∙ on-zero (q % 64)

-- no member is past 255
pub has-past : (s : List ℕ) → length s ≡ 4 → (q : ℕ) → 256 ≤ q → has s q ≡ false
has-past s l q h = zero_word s q (get_or-eq_default s 0 (omega arith))

-- ---- the members of what each operation makes

pub has-empty : (q : ℕ) → q < 256 → has empty_set q ≡ false
unfolding empty_set
has-empty = has-set_of (λ q. false)

pub has-full : (q : ℕ) → q < 256 → has full_set q ≡ true
unfolding full_set
has-full = has-set_of (λ q. true)

pub has-inserted : (s : List ℕ) (b q : ℕ) → q < 256 → has (inserted s b) q ≡ (has s q || eqb q b)
unfolding inserted
has-inserted s b = has-set_of (λ q. has s q || eqb q b)

pub has-inserted_range : (s : List ℕ) (lo hi q : ℕ) → q < 256 → has (inserted_range s lo hi) q ≡ (has s q || (leb lo q && leb q hi))
unfolding inserted_range
has-inserted_range s lo hi = has-set_of (λ q. has s q || (leb lo q && leb q hi))

pub has-union : (s t : List ℕ) (q : ℕ) → q < 256 → has (union_of s t) q ≡ (has s q || has t q)
unfolding union_of
has-union s t = has-set_of (λ q. has s q || has t q)

pub has-intersection : (s t : List ℕ) (q : ℕ) → q < 256 → has (intersection_of s t) q ≡ (has s q && has t q)
unfolding intersection_of
has-intersection s t = has-set_of (λ q. has s q && has t q)

pub has-complement : (s : List ℕ) (q : ℕ) → q < 256 → has (complement_of s) q ≡ not (has s q)
unfolding complement_of
has-complement s = has-set_of (λ q. not (has s q))

pub has-below : (s : List ℕ) (n q : ℕ) → q < 256 → has (kept_below s n) q ≡ (has s q && ltb q n)
unfolding kept_below
has-below s n = has-set_of (λ q. has s q && ltb q n)

-- ---- the words that each operation writes

-- four words that are given by their index, and have the digits of f
pub four_of-set_of : (g : ℕ → ℕ) (f : ℕ → Bool) → ((i : ℕ) → i < 4 → g i < 2 ^ 64) → ((i k : ℕ) → i < 4 → k < 64 → on (g i) k ≡ f (i * 64 + k)) → four_of g ≡ set_of f
four_of-set_of g f b e = by_digits (four_of g) (words-four_of g b) f (λ i k h l. ap (λ (x : ℕ). on x k) (get_d-four_of g i h) ∙ e i k h l)

pub empty-words : four_of (λ i. 0) ≡ empty_set
unfolding empty_set
empty-words = four_of-set_of (λ i. 0) (λ q. false) (λ i h. omega arith) (λ i k h l. on-zero k)

pub full-words : four_of (λ i. 2 ^ 64 - 1) ≡ full_set
unfolding full_set
full-words = four_of-set_of (λ i. 2 ^ 64 - 1) (λ q. true) (λ i h. ones_lt 64) (λ i k h l. on-ones 64 k ∙ lt-ltb k 64 l)

pub union-words : (s t : List ℕ) → Words s → Words t → four_of (λ i. bit_or (get_or s i 0) (get_or t i 0)) ≡ union_of s t
unfolding union_of
union-words s t v w =
    four_of-set_of (λ i. bit_or (get_or s i 0) (get_or t i 0)) (λ q. has s q || has t q)
    (λ i h. or_lt 64 (get_or s i 0) (get_or t i 0) (v.small i h) (w.small i h))
    (λ i k h l. on_or (get_or s i 0) (get_or t i 0) k ∙ ap₂ (λ (x y : Bool). x || y) (sym (has-at s i k l)) (sym (has-at t i k l)))

pub intersection-words : (s t : List ℕ) → Words s → Words t → four_of (λ i. bit_and (get_or s i 0) (get_or t i 0)) ≡ intersection_of s t
unfolding intersection_of
intersection-words s t v w =
    four_of-set_of (λ i. bit_and (get_or s i 0) (get_or t i 0)) (λ q. has s q && has t q)
    (λ i h. and_lt 64 (get_or s i 0) (get_or t i 0) (v.small i h) (w.small i h))
    (λ i k h l. on_and (get_or s i 0) (get_or t i 0) k ∙ ap₂ (λ (x y : Bool). x && y) (sym (has-at s i k l)) (sym (has-at t i k l)))

pub complement-words : (s : List ℕ) → Words s → four_of (λ i. 2 ^ 64 - 1 - get_or s i 0) ≡ complement_of s
unfolding complement_of
complement-words s w =
    four_of-set_of (λ i. 2 ^ 64 - 1 - get_or s i 0) (λ q. not (has s q))
    (λ i h. ones_sub-lt 64 (get_or s i 0))
    (λ i k h l. on-not 64 (get_or s i 0) k (w.small i h) l ∙ ap not (sym (has-at s i k l)))

-- the digits below n of each word are kept
pub below-words : (s : List ℕ) → Words s → (n : ℕ) → four_of (λ i. bit_and (get_or s i 0) (2 ^ min (n - i * 64) 64 - 1)) ≡ kept_below s n
unfolding kept_below
below-words s w n =
    four_of-set_of (λ i. bit_and (get_or s i 0) (mask i)) (λ q. has s q && ltb q n)
    (λ i h. lt_of_le_of_lt (and_le_l (get_or s i 0) (mask i)) (w.small i h))
    (λ i k h l. on_and (get_or s i 0) (mask i) k
    ∙ ap₂ (λ (x y : Bool). x && y) (sym (has-at s i k l)) (on-ones (min (n - i * 64) 64) k ∙ kept i k l (dec_lt (i * 64 + k) n)))
  where
    mask : ℕ → ℕ
    mask i = 2 ^ min (n - i * 64) 64 - 1

    kept : (i k : ℕ) → k < 64 → Dec (i * 64 + k < n) → ltb k (min (n - i * 64) 64) ≡ ltb (i * 64 + k) n
    kept i k l (yes h) = lt-ltb k (min (n - i * 64) 64) (omega arith) ∙ sym (lt-ltb (i * 64 + k) n h)
    kept i k l (no h) = le-ltb k (min (n - i * 64) 64) (omega arith) ∙ sym (le-ltb (i * 64 + k) n (omega arith))

-- `insert` sets one digit of one word
pub insert-words : (s : List ℕ) → Words s → (b : ℕ) → b < 256 → set s (b / 64) (bit_or (get_or s (b / 64) 0) (2 ^ (b % 64))) ≡ inserted s b
unfolding inserted
insert-words s w b h = by_digits r bounded (λ q. has s q || eqb q b) (λ i k l m. digit i k m (ℕ_discrete i (b / 64)))
  where
    v : ℕ
    v = bit_or (get_or s (b / 64) 0) (2 ^ (b % 64))

    r : List ℕ
    r = set s (b / 64) v

    there : get_or r (b / 64) 0 ≡ v
    there = get_or-set_same s (b / 64) v 0 (omega (arith, w.four))

    fits : (i : ℕ) → i < 4 → Dec (i ≡ b / 64) → get_or r i 0 < 2 ^ 64
    fits i l (yes e) =
        let low : b % 64 < 64 = omega arith in
        subst (λ (x : ℕ). x < 2 ^ 64) (sym (ap (λ (j : ℕ). get_or r j 0) e ∙ there))
        (or_lt 64 (get_or s (b / 64) 0) (2 ^ (b % 64)) (w.small (b / 64) (omega arith)) (pow-lt low))
    fits i l (no n) = subst (λ (x : ℕ). x < 2 ^ 64) (sym (get_or-set_other s (b / 64) i v 0 n)) (w.small i l)

    bounded : Words r
    bounded = record { four = length-set s (b / 64) v ∙ w.four; small = λ i l. fits i l (ℕ_discrete i (b / 64)) }

    digit : (i k : ℕ) → k < 64 → Dec (i ≡ b / 64) → on (get_or r i 0) k ≡ (has s (i * 64 + k) || eqb (i * 64 + k) b)
    digit i k m (yes e) =
        ap (λ (j : ℕ). on (get_or r j 0) k) e ∙ ap (λ (x : ℕ). on x k) there
        ∙ on_or (get_or s (b / 64) 0) (2 ^ (b % 64)) k
        ∙ ap₂ (λ (x y : Bool). x || y) (ap (λ (j : ℕ). on (get_or s j 0) k) (sym e) ∙ sym (has-at s i k m)) (on-pow (b % 64) k ∙ same (ℕ_discrete k (b % 64)))
      where
        same : Dec (k ≡ b % 64) → eqb k (b % 64) ≡ eqb (i * 64 + k) b
        same (yes d) = eq-eqb k (b % 64) d ∙ sym (eq-eqb (i * 64 + k) b (omega arith))
        same (no n) = ne_eqb k (b % 64) n ∙ sym (ne_eqb (i * 64 + k) b (λ d. omega arith))
    digit i k m (no n) =
        ap (λ (x : ℕ). on x k) (get_or-set_other s (b / 64) i v 0 n) ∙ sym (has-at s i k m) ∙ sym (or-false (has s (i * 64 + k)))
        ∙ ap (λ (y : Bool). has s (i * 64 + k) || y) (sym (ne_eqb (i * 64 + k) b (λ e. n (omega arith))))

-- the numbers from lo on, below hi + 1, are joined to s
pub range-words : (s : List ℕ) (lo hi : ℕ) → union_of s (kept_below (complement_of (kept_below full_set lo)) (hi + 1)) ≡ inserted_range s lo hi
unfolding union_of inserted_range
range-words s lo hi =
    set_of-ext (λ q. has s q || has range q) (λ q. has s q || (leb lo q && leb q hi)) (λ q h. ap (λ (b : Bool). has s q || b) (member q h))
  where
    range : List ℕ
    range = kept_below (complement_of (kept_below full_set lo)) (hi + 1)

    from : (q : ℕ) → Dec (q < lo) → not (ltb q lo) ≡ leb lo q
    from q (yes h) = ap not (lt-ltb q lo h) ∙ sym (lt-leb lo q h)
    from q (no h) = ap not (le-ltb q lo (omega arith)) ∙ sym (le-leb lo q (omega arith))

    member : (q : ℕ) → q < 256 → has range q ≡ (leb lo q && leb q hi)
    member q h =
        has-below (complement_of (kept_below full_set lo)) (hi + 1) q h
        ∙ ap₂ (λ (x y : Bool). x && y)
        (has-complement (kept_below full_set lo) q h ∙ ap not (has-below full_set lo q h ∙ ap (λ (b : Bool). b && ltb q lo) (has-full q h)) ∙ from q (dec_lt q lo))
        (ap (ltb q) (add-one hi) ∙ leb-suc-suc q hi)

-- ---- some member, or none

-- what is below n + 1 is below n, or n
pub below_next : (q n : ℕ) → ltb q (n + 1) ≡ (ltb q n || eqb q n)
below_next q n = go (dec_lt q n) (ℕ_discrete q n)
  where
    go : Dec (q < n) → Dec (q ≡ n) → ltb q (n + 1) ≡ (ltb q n || eqb q n)
    go (yes l) d = rw (lt-ltb q (n + 1) (omega arith), lt-ltb q n l)
    go (no l) (yes e) = rw (lt-ltb q (n + 1) (omega arith), le-ltb q n (omega arith), eq-eqb q n e)
    go (no l) (no e) = rw (le-ltb q (n + 1) (omega arith), le-ltb q n (omega arith), ne_eqb q n e)

pub any_at : (n : ℕ) (f : ℕ → Bool) (k : ℕ) → k < n → f k ≡ true → any n f ≡ true
unfolding any
any_at zero f k h e = absurd (not-suc-le-zero h)
any_at (suc n) f k h e =
    ⊎_elim (λ l. ap (λ (b : Bool). any n f || b) (sym (ap f l) ∙ e) ∙ or-true (any n f)) (λ l. ap (λ (b : Bool). b || f n) (any_at n f k l e))
    (eq-or-lt_of_le (le_of_suc-le-suc h))

pub any_none : (n : ℕ) (f : ℕ → Bool) → any n f ≡ false → (k : ℕ) → k < n → f k ≡ false
any_none n f e k h = go (f k) refl
  where
    go : (b : Bool) → f k ≡ b → f k ≡ false
    go true p = absurd (true≢false (sym (any_at n f k h p) ∙ e))
    go false p = p

pub any_some : (n : ℕ) (f : ℕ → Bool) → any n f ≡ true → (k : ℕ) × (k < n) × (f k ≡ true)
unfolding any
any_some zero f e = absurd (true≢false (sym e))
any_some (suc n) f e = go (any_some n f) (any n f) refl e
  where
    go : (any n f ≡ true → (k : ℕ) × (k < n) × (f k ≡ true)) → (b : Bool) → any n f ≡ b → (b || f n) ≡ true → (k : ℕ) × (k < suc n) × (f k ≡ true)
    go ih true p q = let r = ih p in (r.0, omega (arith, r.1), r.2)
    go ih false p q = (n, omega arith, q)

-- two tests that agree below n find the same
pub any-ext : (n : ℕ) (f g : ℕ → Bool) → ((k : ℕ) → k < n → f k ≡ g k) → any n f ≡ any n g
unfolding any
any-ext zero f g e = refl
any-ext (suc n) f g e = ap₂ (λ (x y : Bool). x || y) (any-ext n f g (λ k h. e k (omega arith))) (e n (omega arith))

-- nothing is found where nothing holds
pub any-never : (n : ℕ) (f : ℕ → Bool) → ((k : ℕ) → k < n → f k ≡ false) → any n f ≡ false
unfolding any
any-never zero f e = refl
any-never (suc n) f e = ap₂ (λ (x y : Bool). x || y) (any-never n f (λ k h. e k (omega arith))) (e n (omega arith))

pub empty-none : (s : List ℕ) → is_empty s ≡ true → (q : ℕ) → q < 256 → has s q ≡ false
unfolding is_empty
empty-none s e = any_none 256 (has s) (not-true (any 256 (has s)) e)

pub empty-some : (s : List ℕ) → is_empty s ≡ false → (q : ℕ) × (q < 256) × (has s q ≡ true)
unfolding is_empty
empty-some s e = any_some 256 (has s) (not-false (any 256 (has s)) e)

-- a set with no members is the empty words
pub empty-is : (s : List ℕ) → Words s → is_empty s ≡ true → s ≡ empty_set
unfolding empty_set
empty-is s w e = by_members s w (λ q. false) (empty-none s e)

-- the words or-ed together are 0 where there is no member
pub empty-test : (s : List ℕ) → Words s → eqb (bit_or (bit_or (bit_or (get_or s 0 0) (get_or s 1 0)) (get_or s 2 0)) (get_or s 3 0)) 0 ≡ is_empty s
empty-test s w = go (is_empty s) refl
  where
    joined : List ℕ → ℕ
    joined t = bit_or (bit_or (bit_or (get_or t 0 0) (get_or t 1 0)) (get_or t 2 0)) (get_or t 3 0)

    or-none : (a b : ℕ) → bit_or a b ≡ 0 → (a ≡ 0) × (b ≡ 0)
    or-none a b e = omega (arith, or_add_and a b, and_le_l a b, and_le_r a b)

    none : joined s ≡ 0 → (i : ℕ) → i < 4 → get_or s i 0 ≡ 0
    none e =
        let c = or-none (bit_or (bit_or (get_or s 0 0) (get_or s 1 0)) (get_or s 2 0)) (get_or s 3 0) e in
        let b = or-none (bit_or (get_or s 0 0) (get_or s 1 0)) (get_or s 2 0) c.0 in
        let a = or-none (get_or s 0 0) (get_or s 1 0) b.0 in
        below-four (λ (i : ℕ). get_or s i 0 ≡ 0) a.0 a.1 b.1 c.1

    go : (b : Bool) → is_empty s ≡ b → eqb (joined s) 0 ≡ is_empty s
    go true e = ap (λ (t : List ℕ). eqb (joined t) 0) (empty-is s w e ∙ sym empty-words) ∙ sym e
    go false e =
        let r = empty-some s e in
        let q = r.0 in
        ne_eqb (joined s) 0 (λ z. true≢false (sym r.2 ∙ zero_word s q (none z (q / 64) (omega (arith, r.1))))) ∙ sym e

-- ---- the number of members

pub size-words : (s : List ℕ) → Words s → ones (get_or s 0 0) + ones (get_or s 1 0) + ones (get_or s 2 0) + ones (get_or s 3 0) ≡ size_of s
unfolding size_of
size-words s w =
    ap₂ (λ (x y : ℕ). x + y) (ap₂ (λ (x y : ℕ). x + y) (ap₂ (λ (x y : ℕ). x + y) (word 0 (omega arith)) (word 1 (omega arith))) (word 2 (omega arith))) (word 3 (omega arith))
    ∙ sym (count_add 192 64 (has s) ∙ ap (λ (x : ℕ). x + count 64 (λ k. has s (192 + k)))
    (count_add 128 64 (has s) ∙ ap (λ (x : ℕ). x + count 64 (λ k. has s (128 + k))) (count_add 64 64 (has s) ∙ ap (λ (x : ℕ). x + count 64 (λ k. has s (64 + k))) first)))
  where
    word : (i : ℕ) → i < 4 → ones (get_or s i 0) ≡ count 64 (λ k. has s (i * 64 + k))
    word i h = ones-count 64 (get_or s i 0) (w.small i h) ∙ count-ext 64 (on (get_or s i 0)) (λ k. has s (i * 64 + k)) (λ k l. sym (has-at s i k l))

    first : count 64 (has s) ≡ count 64 (λ k. has s (0 * 64 + k))
    first = count-ext 64 (has s) (λ k. has s (0 * 64 + k)) (λ k l. ap (has s) (omega arith))

-- ---- operations on sets that are given by their members

pub inserted-set_of : (f : ℕ → Bool) (b : ℕ) → inserted (set_of f) b ≡ set_of (λ q. f q || eqb q b)
unfolding inserted
inserted-set_of f b = set_of-ext (λ q. has (set_of f) q || eqb q b) (λ q. f q || eqb q b) (λ q h. ap (λ (x : Bool). x || eqb q b) (has-set_of f q h))

pub union-set_of : (f g : ℕ → Bool) → union_of (set_of f) (set_of g) ≡ set_of (λ q. f q || g q)
unfolding union_of
union-set_of f g =
    set_of-ext (λ q. has (set_of f) q || has (set_of g) q) (λ q. f q || g q) (λ q h. ap₂ (λ (x y : Bool). x || y) (has-set_of f q h) (has-set_of g q h))

pub intersection-set_of : (f g : ℕ → Bool) → intersection_of (set_of f) (set_of g) ≡ set_of (λ q. f q && g q)
unfolding intersection_of
intersection-set_of f g =
    set_of-ext (λ q. has (set_of f) q && has (set_of g) q) (λ q. f q && g q) (λ q h. ap₂ (λ (x y : Bool). x && y) (has-set_of f q h) (has-set_of g q h))

pub complement-set_of : (f : ℕ → Bool) → complement_of (set_of f) ≡ set_of (λ q. not (f q))
unfolding complement_of
complement-set_of f = set_of-ext (λ q. not (has (set_of f) q)) (λ q. not (f q)) (λ q h. ap not (has-set_of f q h))

pub below-set_of : (f : ℕ → Bool) (n : ℕ) → kept_below (set_of f) n ≡ set_of (λ q. f q && ltb q n)
unfolding kept_below
below-set_of f n = set_of-ext (λ q. has (set_of f) q && ltb q n) (λ q. f q && ltb q n) (λ q h. ap (λ (x : Bool). x && ltb q n) (has-set_of f q h))
