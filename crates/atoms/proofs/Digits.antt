-- Digits and the number that they make. The digits at a place are none where the byte there is no
-- digit, and else that byte's and those after it; once the number has reached the cap, further
-- digits do not change it.
use mathlib.Core.Path.{◌≡◌, refl, sym, ap, ◌∙◌}
use mathlib.Core.Bool.{Bool, true, false, cond, ◌&&◌}
use mathlib.Core.List.{List, [], ◌∷◌}
use Prim.Native.Nat.{ℕ, suc, ◌+◌, ◌-◌, ◌*◌, ◌≤◌, ◌<◌, min}
use native.Mathlib.Decide.{dec_lt}
use native.Mathlib.Nat.{le-mul_of_pos_right}
use native.Mathlib.Omega.{arith}
use borrow.Author.Tests.{lt-ltb, le-ltb, le-leb, lt-leb, leb-true, ltb-true, ltb-false}
use Rattle.std.specs.Prelude.{Option, Some, None}
use Rattle.std.proofs.lemmas.Option.{cond_some, none-some}
use lib.Dec.{ltb, leb}
use Rattle.kinds.specs.Kind.{within}
use lib.ListN.{length, get_or, drop, length-drop, drop_of_length-le}
use lib.Seq.{drop-drop}
use Rattle.atoms.specs.Number.{digit_of, digits, value_from, cap, some, blanks, numeral_of}
use Rattle.atoms.specs.Number.{Numeral}
use Rattle.std.specs.Option.{is_some, unwrap_or}
use Rattle.atoms.specs.Invariants.{digit_in, made_of}
use Rattle.atoms.proofs.Suffixes.{front, inside}
use Rattle.atoms.proofs.Blanks.{blanks-fit}

-- what a byte of each range is worth
module _ (b : ℕ) where
  pub worth-decimal : 48 ≤ b → b ≤ 57 → digit_of b ≡ b - 48
  unfolding digit_of
  worth-decimal l h = rw (le-leb 48 b l, le-leb b 57 h)

  pub worth-upper : 65 ≤ b → b ≤ 70 → digit_of b ≡ b - 55
  unfolding digit_of
  worth-upper l h =
      let above : 57 < b = omega arith in
      let also : 48 ≤ b = omega arith in
      rw (le-leb 48 b also, lt-leb b 57 above, le-leb 65 b l, le-leb b 70 h)

  pub worth-lower : 97 ≤ b → b ≤ 102 → digit_of b ≡ b - 87
  unfolding digit_of
  worth-lower l h =
      let above : 57 < b = omega arith in
      let also : 48 ≤ b = omega arith in
      let above-upper : 70 < b = omega arith in
      let also-upper : 65 ≤ b = omega arith in
      rw (le-leb 48 b also, lt-leb b 57 above, le-leb 65 b also-upper, lt-leb b 70 above-upper, le-leb 97 b l, le-leb b 102 h)

pub outside : (lo hi b : ℕ) → (lo ≤ b → hi < b) → within lo hi b ≡ false
outside lo hi b h = go (leb lo b) refl
  where
    go : (t : Bool) → leb lo b ≡ t → (leb lo b && leb b hi) ≡ false
    go true e = rw (e, lt-leb b hi (h (leb-true lo b e)))
    go false e = rw e

-- a byte in none of the ranges is worth 16
pub worth-none : (b : ℕ) → (48 ≤ b → 57 < b) → (65 ≤ b → 70 < b) → (97 ≤ b → 102 < b) → digit_of b ≡ 16
unfolding digit_of
worth-none b d u l = rw (outside 48 57 b d, outside 65 70 b u, outside 97 102 b l)

-- a digit of a base, by the definition
pub in-digit : (base b d : ℕ) → digit_in base b ≡ Some d → (digit_of b < base) × (digit_of b ≡ d)
in-digit base b d e = let p = cond_some (ltb (digit_of b) base) (digit_of b) d e in (ltb-true (digit_of b) base p.0, p.1)

pub no-digit-in : (base b : ℕ) → digit_in base b ≡ None → base ≤ digit_of b
no-digit-in base b e = go (ltb (digit_of b) base) refl e
  where
    go : (t : Bool) → ltb (digit_of b) base ≡ t → cond t (Some (digit_of b)) None ≡ None → base ≤ digit_of b
    go true h e = absurd (none-some (digit_of b) (sym e))
    go false h e = ltb-false (digit_of b) base h

module _ (s : List ℕ) (at : ℕ) where
  -- past the end there is no digit
  pub digit-inside : digit_of (get_or s at 0) < 16 → at < length s
  unfolding digit_of
  digit-inside h = inside s at (λ z. let k : 16 < 16 = rw z at h in omega arith)

  module _ (base : ℕ) (small : base ≤ 16) where
    pub no_digit : base ≤ digit_of (get_or s at 0) → digits base (drop at s) ≡ []
    unfolding digits
    no_digit h = go (dec_lt at (length s))
      where
        go : Dec (at < length s) → digits base (drop at s) ≡ []
        go (yes l) = rw (front s at l, le-ltb (digit_of (get_or s at 0)) base h)
        go (no l) = let past : length s ≤ at = omega arith in rw (drop_of_length-le s past)

    pub digit : digit_of (get_or s at 0) < base → digits base (drop at s) ≡ digit_of (get_or s at 0) ∷ digits base (drop (at + 1) s)
    unfolding digits
    digit h = rw (front s at (digit-inside (omega arith)), lt-ltb (digit_of (get_or s at 0)) base h)

-- a digit that follows does not make a number smaller
grows : (base k : ℕ) (ds : List ℕ) (acc : ℕ) → 0 < base → k ≤ acc → k ≤ value_from base acc ds
unfolding value_from
grows base k [] acc b h = h
grows base k (d ∷ ds) acc b h =
    let times : acc ≤ acc * base = le-mul_of_pos_right acc b in
    grows base k ds (acc * base + d) b (omega arith)

-- a number that is cut to the cap makes the same, cut to the cap
cut : (base : ℕ) (ds : List ℕ) (acc : ℕ) → 0 < base → min cap (value_from base (min cap acc) ds) ≡ min cap (value_from base acc ds)
cut base ds acc b = go (dec_lt acc cap)
  where
    go : Dec (acc < cap) → min cap (value_from base (min cap acc) ds) ≡ min cap (value_from base acc ds)
    go (yes l) = let same : min cap acc ≡ acc = omega arith in rw same
    go (no l) =
        let at_cap : min cap acc ≡ cap = omega arith in
        let one : cap ≤ value_from base cap ds = grows base cap ds cap b (omega arith) in
        let other : cap ≤ value_from base acc ds = grows base cap ds acc b (omega arith) in
        rw at_cap (omega arith)

-- Of the digits at the front of v, k are read, and make the number `o`.
pub record Read (base : ℕ) (v : List ℕ) (k : ℕ) (o : Option ℕ) : Type 0 where
  pub small : unwrap_or o 0 ≤ cap
  pub sized : k + length (digits base (drop k v)) ≡ length (digits base v)
  pub valued : min cap (value_from base (unwrap_or o 0) (digits base (drop k v))) ≡ min cap (value_from base 0 (digits base v))
  pub digit : is_some o ≡ ltb 0 k

-- there is a digit where some are
has-some : (ds : List ℕ) → ltb 0 (length ds) ≡ some ds
has-some [] = refl
has-some (d ∷ ds) = lt-ltb 0 (suc (length ds)) (omega arith)

module _ (base : ℕ) (v : List ℕ) where
  pub read_none : Read base v 0 None
  read_none = record { small = omega arith; sized = omega arith; valued = refl; digit = refl }

  module _ (small : base ≤ 16) (k : ℕ) (o : Option ℕ) (read : Read base v k o) where
    -- at a digit d
    pub read_more : (d x : ℕ) → 0 < base → digit_in base (get_or v k 0) ≡ Some d → x ≡ min cap (unwrap_or o 0 * base + d) → Read base v (k + 1) (Some x)
    unfolding value_from
    read_more d x b e ex =
        let h = in-digit base (get_or v k 0) d e in
        let here : digits base (drop k v) ≡ d ∷ digits base (drop (k + 1) v) = rw (← h.1) (digit v k base small h.0) in
        let longer : length (digits base (drop k v)) ≡ suc (length (digits base (drop (k + 1) v))) = ap length here in
        record {
          small = omega arith;
          sized = omega (arith, read.sized);
          valued = rw ex (cut base (digits base (drop (k + 1) v)) (unwrap_or o 0 * base + d) b ∙ rw here at read.valued);
          digit = sym (lt-ltb 0 (k + 1) (omega arith));
        }

    -- where no digit follows
    read-whole : (n : ℕ) → n ≡ k → digits base (drop k v) ≡ [] → record { value = unwrap_or o 0; some = is_some o; size = n } ≡ made_of base v
    unfolding made_of value_from
    read-whole n e none =
        let size : k ≡ length (digits base v) = omega (arith, rw none at read.sized) in
        let whole : min cap (unwrap_or o 0) ≡ min cap (value_from base 0 (digits base v)) = rw none at read.valued in
        let value : unwrap_or o 0 ≡ min cap (value_from base 0 (digits base v)) = omega (arith, read.small) in
        let t : is_some o ≡ some (digits base v) = read.digit ∙ ap (ltb 0) size ∙ has-some (digits base v) in
        λ i. record { value = value i; some = t i; size = (e ∙ size) i }

    pub read_done : digit_in base (get_or v k 0) ≡ None → record { value = unwrap_or o 0; some = is_some o; size = k } ≡ made_of base v
    read_done e = read-whole k refl (no_digit v k base small (no-digit-in base (get_or v k 0) e))

    pub read-all : length v ≡ k → record { value = unwrap_or o 0; some = is_some o; size = length v } ≡ made_of base v
    unfolding digits
    read-all e = read-whole (length v) e (let past : length v ≤ k = omega arith in rw (drop_of_length-le v past) refl)

-- the digits stand in the pattern
pub digits-fit : (base : ℕ) (v : List ℕ) → length (digits base v) ≤ length v
unfolding digits
digits-fit base [] = omega arith
digits-fit base (b ∷ v) = go (ltb (digit_of b) base) (digits-fit base v)
  where
    go : (t : Bool) → length (digits base v) ≤ length v → length (cond t (digit_of b ∷ digits base v) []) ≤ suc (length v)
    go true h = omega arith
    go false h = omega arith

-- the number at a place, of which b blanks stand before the digits
module _ (base : ℕ) (s : List ℕ) (at b : ℕ) (eb : b ≡ blanks (drop at s)) where
  pub before-fits : b ≤ length s - at
  before-fits = omega (arith, blanks-fit (drop at s), length-drop at s)

  module _ (n : Numeral) (en : n ≡ made_of base (drop (at + b) s)) where
    sized : n.size ≡ length (digits base (drop (at + b) s))
    unfolding made_of
    sized = ap (λ (x : Numeral). x.size) en

    pub digits-inside : n.size ≤ length s - (at + b)
    digits-inside = omega (arith, sized, digits-fit base (drop (at + b) s), length-drop (at + b) s)

    -- and a blanks after them
    module _ (a : ℕ) (ea : a ≡ blanks (drop (at + (b + n.size)) s)) where
      pub after-fits : a ≤ length s - (at + (b + n.size))
      after-fits = omega (arith, blanks-fit (drop (at + (b + n.size)) s), length-drop (at + (b + n.size)) s)

      pub whole-number : record { value = n.value; some = n.some; size = b + n.size + a } ≡ numeral_of base (drop at s)
      unfolding numeral_of made_of
      whole-number =
          let w : List ℕ = drop (at + b) s in
          let k : ℕ = length (digits base w) in
          let place : at + (b + n.size) ≡ at + b + k = omega (arith, sized) in
          let after : a ≡ blanks (drop k w) = ea ∙ rw (place, drop-drop k (at + b) s) refl in
          let size : b + n.size + a ≡ b + (k + blanks (drop k w)) = omega (arith, sized) in
          rw (← eb, drop-drop b at s)
          (λ i. record { value = (ap (λ (x : Numeral). x.value) en) i; some = (ap (λ (x : Numeral). x.some) en) i; size = size i })

pub numeral-fits : (base : ℕ) (s : List ℕ) (at : ℕ) (n : Numeral) → n ≡ numeral_of base (drop at s) → n.size ≤ length s - at
unfolding numeral_of
numeral-fits base s at n e =
    let v = drop at s in
    let w = drop (blanks v) v in
    let k = length (digits base w) in
    omega (
      arith,
      ap (λ (x : Numeral). x.size) e,
      length-drop at s,
      blanks-fit v,
      length-drop (blanks v) v,
      digits-fit base w,
      length-drop k w,
      blanks-fit (drop k w),
    )
