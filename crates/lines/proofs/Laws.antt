-- What callers need of lines, rule lines, numbers in decimal and the bytes to ask for: where a line
-- and a pattern lie, and that a number is written as people write it.
use mathlib.Core.Path.{◌≡◌, refl}
use mathlib.Core.Bool.{Bool, true, false, cond, ◌&&◌, and-eq-true_iff}
use mathlib.Core.List.{List, [], ◌∷◌, map}
use Prim.Native.Nat.{ℕ, ◌+◌, ◌-◌, ◌^◌, ◌≤◌, ◌<◌}
use native.Mathlib.Omega.{arith}
use lib.Dec.{eqb}
use lib.ListN.{length, get_or, take, drop, length-drop}
use lib.Seq.{take-append_seam}
use Rattle.stream.specs.Valid.{stream_limit}
use Rattle.lines.specs.Lines.{line_length, line_end, value_from, is_field, field_size, ReadLine, rule_line_of}
use Rattle.lines.specs.Numbers.{decimal_of, written, askable}
use Rattle.lines.proofs.Fields.{good-field, field-within}
use Rattle.lines.proofs.Decimals.{within-some, within-most, within-bytes, within-leading, within-value}

-- ---- lines

-- a property of what a test picks, by cases of the test
picked : {A : Type 0} (P : A → Type 0) (t : Bool) (x y : A) → (t ≡ true → P x) → (t ≡ false → P y) → P (cond t x y)
picked P true x y hx hy = hx refl
picked P false x y hx hy = hy refl

line-length : (v : List ℕ) → line_length v ≤ length v
unfolding line_length
line-length [] = omega arith
line-length (b ∷ v) =
    let ih = line-length v in
    picked (λ (n : ℕ). n ≤ length (b ∷ v)) (eqb b 10) _ _ (λ e. omega arith) (λ e. omega arith)

-- a line lies within its text
pub line-within : (text : List ℕ) (from : ℕ) → from ≤ length text → (from ≤ line_end text from) × (line_end text from ≤ length text)
line-within text from h = omega (arith, line-length (drop from text), length-drop from text)

-- ---- rule lines

-- the two fields of a good rule line lie within it
fields_within : (v : List ℕ) → (is_field v && is_field (drop (field_size v) v)) ≡ true → field_size v + field_size (drop (field_size v) v) ≤ length v
fields_within v e =
    let rest = drop (field_size v) v in
    let p = (and-eq-true_iff (is_field v) (is_field rest)).0 e in
    omega (arith, field-within v (good-field v p.0), field-within rest (good-field rest p.1), length-drop (field_size v) v)

-- a good rule line's pattern begins at or before the line's end; a malformed one has 0 there
pub pattern-within : (v : List ℕ) → (rule_line_of v).pattern ≤ length v
unfolding rule_line_of
pattern-within v = picked (λ (x : ReadLine). x.pattern ≤ length v) (is_field v && is_field (drop (field_size v) v)) _ _ (fields_within v) (λ e. omega arith)

-- a good rule line's id has 32 bits
pub good-id : (v : List ℕ) → (rule_line_of v).id < 2 ^ 32
unfolding rule_line_of
good-id v =
    picked (λ (x : ReadLine). x.id < 2 ^ 32) (is_field v && is_field (drop (field_size v) v)) _ _
    (λ e. (good-field v ((and-eq-true_iff (is_field v) (is_field (drop (field_size v) v))).0 e).0).small) (λ e. omega arith)

-- ---- numbers in decimal

-- there is a digit, and there are at most 20
pub some-digit : (n : ℕ) → 1 ≤ length (decimal_of n)
unfolding decimal_of
some-digit n = within-some 19 n

pub most-digits : (n : ℕ) → length (decimal_of n) ≤ 20
unfolding decimal_of
most-digits n = within-most 20 n

-- every digit is a byte from 48 to 57
pub digit-bytes : (n i : ℕ) → i < length (decimal_of n) → (48 ≤ get_or (decimal_of n) i 0) × (get_or (decimal_of n) i 0 ≤ 57)
unfolding decimal_of
digit-bytes n = within-bytes 20 n

-- only 0 begins with the digit 0
pub no-leading-zero : (n : ℕ) → n < 2 ^ 64 → get_or (decimal_of n) 0 0 ≡ 48 → n ≡ 0
unfolding decimal_of
no-leading-zero n h = within-leading 20 n (omega arith)

-- the digits read back as the number
pub read_back : (n : ℕ) → n < 2 ^ 64 → value_from 0 (map (λ (b : ℕ). b - 48) (decimal_of n)) ≡ n
unfolding decimal_of
read_back n h = within-value 20 n (omega arith)

-- the first `size` bytes are the digits
pub written-digits : (n : ℕ) → take (written n).size (written n).digits ≡ decimal_of n
unfolding written
written-digits n = take-append_seam (decimal_of n) _

pub written-size : (n : ℕ) → (1 ≤ (written n).size) × ((written n).size ≤ 20)
unfolding written
written-size n = (some-digit n, most-digits n)

-- ---- the bytes to ask for

pub askable-room : (taken room : ℕ) → askable taken room ≤ room
unfolding askable
askable-room taken room = omega arith

-- the stream stays within its limit
pub askable-limit : (taken room : ℕ) → taken ≤ stream_limit → taken + askable taken room ≤ stream_limit
unfolding askable
askable-limit taken room h = omega arith
