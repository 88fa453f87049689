-- Reading digits at a place, in a number that stops growing at 2^32. A number that has reached the
-- cap stays at least there whatever digits follow, so that the capped number is the cap of the
-- whole one.
use mathlib.Core.Path.{◌≡◌, refl, ap, ◌∙◌}
use mathlib.Core.Bool.{Bool, true, false, ◌&&◌, and-eq-true_iff}
use mathlib.Core.List.{List, [], ◌∷◌}
use Prim.Native.Nat.{ℕ, ◌+◌, ◌-◌, ◌*◌, ◌^◌, ◌≤◌, ◌<◌, min}
use native.Mathlib.Omega.{arith}
use native.Mathlib.Decide.{dec_lt}
use borrow.Author.Tests.{leb-true}
use lib.Dec.{leb}
use lib.ListN.{length, get_or, drop, drop_of_length-le}
use Rattle.lines.specs.Lines.{digits_of, value_from, field_value}
use Rattle.lines.proofs.Suffixes.{drop-next}

-- the test of a digit
abbrev pub is_digit : ℕ → Bool
is_digit b = leb 48 b && leb b 57

pub digit-range : (b : ℕ) → is_digit b ≡ true → (48 ≤ b) × (b ≤ 57)
digit-range b e = let p = (and-eq-true_iff (leb 48 b) (leb b 57)).0 e in (leb-true 48 b p.0, leb-true b 57 p.1)

module _ (s : List ℕ) (at : ℕ) where
  pub digits-past : length s ≤ at → digits_of (drop at s) ≡ []
  unfolding digits_of
  digits-past h = rw (drop_of_length-le s h)

  pub digits-stop : at < length s → is_digit (get_or s at 0) ≡ false → digits_of (drop at s) ≡ []
  unfolding digits_of
  digits-stop h e = rw (drop-next s at h, e)

  pub digits_more : at < length s → is_digit (get_or s at 0) ≡ true → digits_of (drop at s) ≡ (get_or s at 0 - 48) ∷ digits_of (drop (at + 1) s)
  unfolding digits_of
  digits_more h e = rw (drop-next s at h, e)

-- a number does not shrink with the digits that follow
grows : (k acc : ℕ) (ds : List ℕ) → k ≤ acc → k ≤ value_from acc ds
unfolding value_from
grows k acc [] h = h
grows k acc (d ∷ ds) h = grows k (acc * 10 + d) ds (omega arith)

cap-first : (acc : ℕ) (ds : List ℕ) → min (2 ^ 32) (value_from (min (2 ^ 32) acc) ds) ≡ min (2 ^ 32) (value_from acc ds)
cap-first acc ds =
    elim (dec_lt acc (2 ^ 32)) [
      | yes l ↦ let e : min (2 ^ 32) acc ≡ acc = omega arith in rw e
      | no l ↦
          let e : min (2 ^ 32) acc ≡ 2 ^ 32 = omega arith in
          let p : 2 ^ 32 ≤ value_from (2 ^ 32) ds = grows (2 ^ 32) (2 ^ 32) ds (omega arith) in
          let q : 2 ^ 32 ≤ value_from acc ds = grows (2 ^ 32) acc ds (omega arith) in
          rw e (omega arith)
    ]

-- with the digits from `from` up to `at` read as `value`, what is left gives what the whole gives
pub record Reading (s : List ℕ) (from value at : ℕ) : Type 0 where
  pub small : value ≤ 2 ^ 32
  pub same : min (2 ^ 32) (value_from value (digits_of (drop at s))) ≡ min (2 ^ 32) (field_value (drop from s))
  pub place : at + length (digits_of (drop at s)) ≡ from + length (digits_of (drop from s))

pub begun : (s : List ℕ) (from : ℕ) → Reading s from 0 from
unfolding field_value
begun s from = record { small = omega arith; same = refl; place = refl }

module _ (s : List ℕ) (from value at : ℕ) (h : Reading s from value at) where
  pub read_one : at < length s → is_digit (get_or s at 0) ≡ true → Reading s from (min (2 ^ 32) (value * 10 + (get_or s at 0 - 48))) (at + 1)
  unfolding value_from
  read_one l e =
      let d : digits_of (drop at s) ≡ (get_or s at 0 - 48) ∷ digits_of (drop (at + 1) s) = digits_more s at l e in
      record {
        small = omega arith;
        same = cap-first (value * 10 + (get_or s at 0 - 48)) (digits_of (drop (at + 1) s)) ∙ (rw d at h.same);
        place = omega (arith, ap length d, h.place);
      }

  pub read_all : digits_of (drop at s) ≡ [] → (value ≡ min (2 ^ 32) (field_value (drop from s))) × (at ≡ from + length (digits_of (drop from s)))
  unfolding value_from
  read_all e =
      let v : min (2 ^ 32) value ≡ min (2 ^ 32) (field_value (drop from s)) = rw e at h.same in
      let w : value ≤ 2 ^ 32 = h.small in
      (omega arith, omega (arith, ap length e, h.place))
