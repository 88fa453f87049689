-- Numbers in decimal. Each law is proved for the digits of n within any room, by induction on the
-- room: n / 10 has one digit less than n, and its digits stand before n's last one. Room beyond the
-- digits changes nothing, so that 20 places serve every 64-bit number.
use mathlib.Core.Path.{◌≡◌, refl, sym, ap, ◌∙◌}
use mathlib.Core.List.{List, [], ◌∷◌, ◌++◌, map, map-append, append_assoc}
use Prim.Native.Nat.{ℕ, zero, suc, ◌+◌, ◌-◌, ◌*◌, ◌/◌, ◌%◌, ◌^◌, ◌≤◌, ◌<◌}
use native.Mathlib.Nat.{pow-suc}
use native.Mathlib.Omega.{arith}
use native.Mathlib.Decide.{dec_lt}
use borrow.Author.Tests.{lt-ltb, le-ltb}
use lib.ListN.{length, get_or, set, replicate, length-append, get_or-append}
use lib.Seq.{get_or_at, set-append_seam}
use Rattle.lines.specs.Lines.{value_from}
use Rattle.lines.specs.Numbers.{decimal_within, decimal_of, written}
use Rattle.lines.specs.declared.Decimal.{Decimal}

-- the two cases of the definition
within-one : (m n : ℕ) → n < 10 → decimal_within (suc m) n ≡ (48 + n) ∷ []
unfolding decimal_within
within-one m n l = rw (lt-ltb n 10 l)

within_more : (m n : ℕ) → 10 ≤ n → decimal_within (suc m) n ≡ decimal_within m (n / 10) ++ ((48 + n % 10) ∷ [])
unfolding decimal_within
within_more m n l = rw (le-ltb n 10 l)

-- n / 10 has a digit less
fewer : (m n : ℕ) → n < 10 ^ suc m → n / 10 < 10 ^ m
fewer m n h = omega (arith, pow-suc 10 m)

-- more room changes nothing
roomier : (m n : ℕ) → n < 10 ^ suc m → decimal_within (suc m) n ≡ decimal_within (suc (suc m)) n
roomier zero n h = within-one zero n (omega (arith, h)) ∙ sym (within-one 1 n (omega (arith, h)))
roomier (suc m) n h =
    let ih : n / 10 < 10 ^ suc m → decimal_within (suc m) (n / 10) ≡ decimal_within (suc (suc m)) (n / 10) = roomier m (n / 10) in
    elim (dec_lt n 10) [
      | yes l ↦ within-one (suc m) n l ∙ sym (within-one (suc (suc m)) n l)
      | no l ↦
          let g : 10 ≤ n = omega arith in
          within_more (suc m) n g
          ∙ ap (λ (ds : List ℕ). ds ++ ((48 + n % 10) ∷ [])) (ih (fewer (suc m) n h))
          ∙ sym (within_more (suc (suc m)) n g)
    ]

pub within-most : (m n : ℕ) → length (decimal_within m n) ≤ m
unfolding decimal_within
within-most zero n = omega arith
within-most (suc m) n =
    let ih = within-most m (n / 10) in
    elim (dec_lt n 10) [
      | yes l ↦ rw (lt-ltb n 10 l) (omega arith)
      | no l ↦ rw (le-ltb n 10 (omega arith), length-append) (omega arith)
    ]

pub within-some : (m n : ℕ) → 1 ≤ length (decimal_within (suc m) n)
unfolding decimal_within
within-some m n =
    elim (dec_lt n 10) [
      | yes l ↦ rw (lt-ltb n 10 l) (omega arith)
      | no l ↦ rw (le-ltb n 10 (omega arith), length-append) (omega arith)
    ]

-- ---- what the recursion writes

module _ (n : ℕ) (l : 10 ≤ n) (fits : n < 2 ^ 64) where
  front : decimal_within 19 (n / 10) ≡ decimal_of (n / 10)
  unfolding decimal_of
  front = roomier 18 (n / 10) (omega arith)

  front-size : length (decimal_of (n / 10)) < 20
  front-size = rw (← front) (omega (arith, within-most 19 (n / 10)))

  last-digit : decimal_of n ≡ decimal_of (n / 10) ++ ((48 + n % 10) ∷ [])
  unfolding decimal_of
  last-digit = within_more 19 n l ∙ ap (λ (ds : List ℕ). ds ++ ((48 + n % 10) ∷ [])) front

-- digits with zeros after them, 20 in all
abbrev padded : List ℕ → List ℕ
padded ds = ds ++ replicate (20 - length ds) 0

-- the first of the zeros becomes one more digit
put : (ds : List ℕ) (d : ℕ) → length ds < 20 → set (padded ds) (length ds) d ≡ padded (ds ++ (d ∷ []))
put ds d h =
    let k = 20 - length (ds ++ (d ∷ [])) in
    let e : 20 - length ds ≡ suc k = omega (arith, length-append ds (d ∷ [])) in
    ap (λ (k : ℕ). set (ds ++ replicate k 0) (length ds) d) e
    ∙ set-append_seam ds 0 (replicate k 0) d
    ∙ sym (append_assoc ds (d ∷ []) (replicate k 0))

pub written_one : (n d : ℕ) → n < 10 → d ≡ 48 + n → record { digits = set (replicate 20 0) 0 d; size = 1 } ≡ written n
unfolding written decimal_of
written_one n d l e = rw (within-one 19 n l, e)

module _ (n : ℕ) (l : 10 ≤ n) (fits : n < 2 ^ 64) (r : Decimal) (e : r ≡ written (n / 10)) where
  pub room-left : r.size < 20
  unfolding written
  room-left = rw e (front-size n l fits)

  pub written-more : (d : ℕ) → d ≡ 48 + n % 10 → record { digits = set r.digits r.size d; size = r.size + 1 } ≡ written n
  unfolding written
  written-more d ed = rw (e, last-digit n l fits, ed, put _ _ (front-size n l fits), length-append)

-- ---- what the digits are

-- every element is a byte from 48 to 57
abbrev pub AllDigits : List ℕ → Type 0
AllDigits ds = (i : ℕ) → i < length ds → (48 ≤ get_or ds i 0) × (get_or ds i 0 ≤ 57)

one_more : (ds : List ℕ) (d : ℕ) → AllDigits ds → 48 ≤ d → d ≤ 57 → AllDigits (ds ++ (d ∷ []))
one_more ds d all lo hi i h =
    elim (dec_lt i (length ds)) [
      | yes l ↦ rw (get_or-append ds (d ∷ []) 0 i l) (all i l)
      | no l ↦ rw (get_or_at ds d [] 0 i (omega (arith, length-append ds (d ∷ [])))) (lo, hi)
    ]

no-digits : AllDigits []
no-digits i h = absurd (omega arith)

pub within-bytes : (m n : ℕ) → AllDigits (decimal_within m n)
unfolding decimal_within
within-bytes zero n = no-digits
within-bytes (suc m) n =
    let ih : AllDigits (decimal_within m (n / 10)) = within-bytes m (n / 10) in
    elim (dec_lt n 10) [
      | yes l ↦ rw (lt-ltb n 10 l) (one_more [] (48 + n) no-digits (omega arith) (omega arith))
      | no l ↦ rw (le-ltb n 10 (omega arith)) (one_more (decimal_within m (n / 10)) (48 + n % 10) ih (omega arith) (omega arith))
    ]

-- n begins as n / 10 does
first-digit : (m n : ℕ) → 10 ≤ n → get_or (decimal_within (suc (suc m)) n) 0 0 ≡ get_or (decimal_within (suc m) (n / 10)) 0 0
first-digit m n l =
    ap (λ (ds : List ℕ). get_or ds 0 0) (within_more (suc m) n l)
    ∙ get_or-append (decimal_within (suc m) (n / 10)) ((48 + n % 10) ∷ []) 0 0 (within-some m (n / 10))

-- only 0 begins with the digit 0
pub within-leading : (m n : ℕ) → n < 10 ^ m → get_or (decimal_within m n) 0 0 ≡ 48 → n ≡ 0
within-leading zero n h e = omega arith
within-leading (suc zero) n h e = omega (arith, rw (within-one zero n (omega arith)) at e)
within-leading (suc (suc m)) n h e =
    let ih = within-leading (suc m) (n / 10) (fewer (suc m) n h) in
    elim (dec_lt n 10) [
      | yes l ↦ omega (arith, rw (within-one (suc m) n l) at e)
      | no l ↦ let z : n / 10 ≡ 0 = ih (sym (first-digit m n (omega arith)) ∙ e) in omega arith
    ]

-- the digits read as the number
value-last : (acc : ℕ) (ds : List ℕ) (d : ℕ) → value_from acc (ds ++ (d ∷ [])) ≡ value_from acc ds * 10 + d
unfolding value_from
value-last acc [] d = refl
value-last acc (a ∷ ds) d = value-last (acc * 10 + a) ds d

abbrev pub digit_value : ℕ → ℕ
digit_value b = b - 48

pub within-value : (m n : ℕ) → n < 10 ^ m → value_from 0 (map digit_value (decimal_within m n)) ≡ n
unfolding decimal_within value_from
within-value zero n h = omega arith
within-value (suc m) n h =
    let ih : n / 10 < 10 ^ m → value_from 0 (map digit_value (decimal_within m (n / 10))) ≡ n / 10 = within-value m (n / 10) in
    elim (dec_lt n 10) [
      | yes l ↦ rw (lt-ltb n 10 l) (omega arith)
      | no l ↦ rw (le-ltb n 10 (omega arith), map-append, value-last, ih (fewer m n h)) (omega arith)
    ]
