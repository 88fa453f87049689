-- The CRC by a table is the CRC bit by bit (`by-table`): the bits above the lowest k come down
-- unchanged, whatever the lowest k make. One changed byte changes it (`crc-differs`): each bit's
-- step is injective, since the polynomial has the highest bit, which a shifted number has not.
use mathlib.Core.Path.{◌≡◌, refl, sym, ap, ap₂, ◌∙◌}
use mathlib.Core.Bool.{Bool, true, false, not, cond}
use mathlib.Core.List.{List, [], ◌∷◌, ◌++◌}
use Prim.Native.Nat.{ℕ, zero, suc, ◌+◌, ◌-◌, ◌*◌, ◌/◌, ◌%◌, ◌^◌, ◌≤◌, ◌<◌}
use native.Mathlib.Nat.{mod-lt, zero-lt-suc, pow-suc, mul_comm, mul_assoc}
use native.Mathlib.Decide.{dec_lt}
use native.Mathlib.Numerals.{add-one}
use native.Mathlib.Omega.{arith}
use borrow.Author.Tests.{eqb-true, eqb-false, not-false}
use lib.Dec.{eqb, lit<}
use lib.Pow.{pow_pos, split}
use lib.Bits.{bit_xor, xor_lt, xor_zero_r, xor_comm, xor_block, xor_shr, xor_shifted}
use lib.ListN.{length, get_or, set, take, drop, length-take, drop_of_length-le, get_or-eq_default}
use lib.Seq.{get_or-take, get_or-drop, drop-cons, set_split, split_at}
use Rattle.sets.specs.Set.{any}
use Rattle.sets.proofs.Laws.{any_none}
use Rattle.card.specs.Crc.{polynomial, ones, crc_bit, crc_bits, crc_byte, crc_from, crc32}
use Rattle.card.specs.Invariants.{Ruled}
use Rattle.card.proofs.Xor.{xor-even, xor-even-half, xor-swap, xor-cancel, xor-cancel-l}

-- ---- the table

-- no entry of the table is wrong
pub ruled : (t : List ℕ) → any 256 (λ i. not (eqb (get_or t i 0) (crc_bits 8 i))) ≡ false → Ruled t
unfolding Ruled
ruled t e i l =
    eqb-true (get_or t i 0) (crc_bits 8 i)
    (not-false (eqb (get_or t i 0) (crc_bits 8 i)) (any_none 256 (λ i. not (eqb (get_or t i 0) (crc_bits 8 i))) e i l))

-- ---- the bits above those that fall out

bit-above : (a h : ℕ) → crc_bit (bit_xor a (h * 2)) ≡ bit_xor (crc_bit a) h
unfolding crc_bit
bit-above a h =
    ap₂ (λ (d x : ℕ). cond (eqb d 1) (bit_xor x polynomial) x) (xor-even a h) (xor-even-half a h) ∙ go (eqb (a % 2) 1)
  where
    go : (t : Bool) → cond t (bit_xor (bit_xor (a / 2) h) polynomial) (bit_xor (a / 2) h) ≡ bit_xor (cond t (bit_xor (a / 2) polynomial) (a / 2)) h
    go true = xor-swap (a / 2) h polynomial
    go false = refl

-- with h shifted past k digits added, h is added to what the k bits make
bits_above : (k a h : ℕ) → crc_bits k (bit_xor a (h * 2 ^ k)) ≡ bit_xor (crc_bits k a) h
unfolding crc_bits
bits_above zero a h = let e : h * 2 ^ 0 ≡ h = omega arith in ap (bit_xor a) e
bits_above (suc k) a h =
    let e : h * 2 ^ suc k ≡ h * 2 * 2 ^ k = ap (λ (x : ℕ). h * x) (pow-suc 2 k ∙ mul_comm (2 ^ k) 2) ∙ sym (mul_assoc h 2 (2 ^ k)) in
    ap (λ (x : ℕ). crc_bit (crc_bits k (bit_xor a x))) e ∙ ap crc_bit (bits_above k a (h * 2)) ∙ bit-above (crc_bits k a) h

-- one turn of the loop
pub by-table : (t : List ℕ) → Ruled t → (state b : ℕ) → b < 256 → bit_xor (state / 256) (get_or t (bit_xor state b % 256) 0) ≡ crc_byte state b
unfolding crc_byte Ruled
by-table t r state b l =
    let x : ℕ = bit_xor state b in
    let high : x / 256 ≡ state / 256 = xor_shr state b 8 ∙ ap (bit_xor (state / 256)) none ∙ xor_zero_r (state / 256) in
    let whole : bit_xor (x % 256) (x / 256 * 2 ^ 8) ≡ x =
    xor_comm (x % 256) (x / 256 * 2 ^ 8) ∙ xor_shifted (x / 256) 8 (x % 256) (mod-lt x (pow_pos 8)) ∙ split x 8 in
    ap₂ bit_xor (sym high) (r (x % 256) (mod-lt x (pow_pos 8)))
    ∙ xor_comm (x / 256) (crc_bits 8 (x % 256)) ∙ sym (bits_above 8 (x % 256) (x / 256)) ∙ ap (crc_bits 8) whole
  where
    none : b / 256 ≡ 0
    none = omega arith

-- ---- states of 32 bits

abbrev pub limit : ℕ
limit = 2 ^ 32

pub bit-small : (x : ℕ) → x < limit → crc_bit x < limit
unfolding crc_bit
bit-small x h = go (eqb (x % 2) 1)
  where
    half : x / 2 < limit
    half = omega arith

    go : (t : Bool) → cond t (bit_xor (x / 2) polynomial) (x / 2) < limit
    go true = xor_lt 32 (x / 2) polynomial half (lit< tt)
    go false = half

pub bits_small : (k x : ℕ) → x < limit → crc_bits k x < limit
unfolding crc_bits
bits_small zero x h = h
bits_small (suc k) x h = bit-small (crc_bits k x) (bits_small k x h)

pub byte_small : (state b : ℕ) → state < limit → b < 256 → crc_byte state b < limit
unfolding crc_byte
byte_small state b h l = bits_small 8 (bit_xor state b) (xor_lt 32 state b h (omega arith))

-- ---- each step is injective

-- with the polynomial added to a number of 31 bits the highest bit is set
high-set : (x : ℕ) → x < 2 ^ 31 → 2 ^ 31 ≤ bit_xor x polynomial
high-set x h =
    let z : x ≡ 0 * 2 ^ 31 + x = omega arith in
    let e : bit_xor x polynomial ≡ bit_xor 0 1 * 2 ^ 31 + bit_xor x (polynomial - 2 ^ 31) =
    ap (λ (y : ℕ). bit_xor y polynomial) z ∙ xor_block 31 0 1 x (polynomial - 2 ^ 31) h (lit< tt) in
    omega (arith, e)

bit-injective : (x y : ℕ) → x < limit → y < limit → crc_bit x ≡ crc_bit y → x ≡ y
unfolding crc_bit
bit-injective x y p q e = go (eqb (x % 2) 1) refl (eqb (y % 2) 1) refl e
  where
    go : (s : Bool) → eqb (x % 2) 1 ≡ s → (t : Bool) → eqb (y % 2) 1 ≡ t
        → cond s (bit_xor (x / 2) polynomial) (x / 2) ≡ cond t (bit_xor (y / 2) polynomial) (y / 2) → x ≡ y
    go true a true b f = omega (arith, xor-cancel (x / 2) (y / 2) polynomial f, eqb-true (x % 2) 1 a, eqb-true (y % 2) 1 b)
    go true a false b f = absurd (omega (arith, high-set (x / 2) (omega arith), f))
    go false a true b f = absurd (omega (arith, high-set (y / 2) (omega arith), f))
    go false a false b f =
        let even : x % 2 ≡ 0 = omega (arith, eqb-false (x % 2) 1 a, mod-lt x (zero-lt-suc 1)) in
        let even' : y % 2 ≡ 0 = omega (arith, eqb-false (y % 2) 1 b, mod-lt y (zero-lt-suc 1)) in
        omega arith

bits-injective : (k x y : ℕ) → x < limit → y < limit → crc_bits k x ≡ crc_bits k y → x ≡ y
unfolding crc_bits
bits-injective zero x y p q e = e
bits-injective (suc k) x y p q e =
    bits-injective k x y p q (bit-injective (crc_bits k x) (crc_bits k y) (bits_small k x p) (bits_small k y q) e)

-- in the state for one byte, and in the byte for one state
byte-injective : (s t b : ℕ) → s < limit → t < limit → b < 256 → crc_byte s b ≡ crc_byte t b → s ≡ t
unfolding crc_byte
byte-injective s t b p q l e =
    xor-cancel s t b (bits-injective 8 (bit_xor s b) (bit_xor t b) (xor_lt 32 s b p (omega arith)) (xor_lt 32 t b q (omega arith)) e)

byte-told : (s b c : ℕ) → s < limit → b < 256 → c < 256 → crc_byte s b ≡ crc_byte s c → b ≡ c
unfolding crc_byte
byte-told s b c p l m e =
    xor-cancel-l b c s (bits-injective 8 (bit_xor s b) (bit_xor s c) (xor_lt 32 s b p (omega arith)) (xor_lt 32 s c p (omega arith)) e)

-- ---- the loop, a byte a turn

-- what the loop keeps: the bytes to come make of the state what the first n bytes make of all ones
abbrev pub Passed : (bytes : List ℕ) (n state i : ℕ) → Type 0
Passed bytes n state i = (i ≤ n) × ((n ≤ length bytes) × (crc_from state (drop i (take n bytes)) ≡ crc_from ones (take n bytes)))

pub passed_none : (bytes : List ℕ) (n : ℕ) → n ≤ length bytes → Passed bytes n ones 0
passed_none bytes n h = (omega arith, (h, refl))

pub passed-one : (bytes : List ℕ) (n state i next : ℕ) → Passed bytes n state i → i < n → next ≡ crc_byte state (get_or bytes i 0) → Passed bytes n next (i + 1)
unfolding crc_from
passed-one bytes n state i next v l e =
    let long : i < length (take n bytes) = omega (arith, length-take n bytes) in (
      omega arith,
      (
        v.1.0,
        ap (λ (k : ℕ). crc_from next (drop k (take n bytes))) (add-one i)
            ∙ ap (λ (x : ℕ). crc_from x (drop (suc i) (take n bytes))) (e ∙ ap (crc_byte state) (sym (get_or-take n bytes i 0 l)))
            ∙ ap (crc_from state) (sym (drop-cons (take n bytes) i 0 long)) ∙ v.1.1,
      ),
    )

pub passed-all : (bytes : List ℕ) (n state i : ℕ) → Passed bytes n state i → n ≤ i → bit_xor state ones ≡ crc32 (take n bytes)
unfolding crc_from crc32
passed-all bytes n state i v g =
    ap (λ (x : ℕ). bit_xor x ones)
    (ap (crc_from state) (sym (drop_of_length-le (take n bytes) {i = i} (omega (arith, length-take n bytes)))) ∙ v.1.1)

-- ---- one changed byte

-- every element is a byte; past the end the default is 0
abbrev pub AreBytes : List ℕ → Type 0
AreBytes s = (j : ℕ) → get_or s j 0 < 256

bytes_rest : (b : ℕ) (s : List ℕ) → AreBytes (b ∷ s) → AreBytes s
bytes_rest b s h j = h (suc j)

from-small : (x : ℕ) (s : List ℕ) → AreBytes s → x < limit → crc_from x s < limit
unfolding crc_from
from-small x [] h l = l
from-small x (b ∷ s) h l = from-small (crc_byte x b) s (bytes_rest b s h) (byte_small x b l (h 0))

from-append : (x : ℕ) (p s : List ℕ) → crc_from x (p ++ s) ≡ crc_from (crc_from x p) s
unfolding crc_from
from-append x [] s = refl
from-append x (b ∷ p) s = from-append (crc_byte x b) p s

from-injective : (x y : ℕ) (s : List ℕ) → AreBytes s → x < limit → y < limit → crc_from x s ≡ crc_from y s → x ≡ y
unfolding crc_from
from-injective x y [] h l m e = e
from-injective x y (b ∷ s) h l m e =
    byte-injective x y b l m (h 0)
    (from-injective (crc_byte x b) (crc_byte y b) s (bytes_rest b s h) (byte_small x b l (h 0)) (byte_small y b m (h 0)) e)

-- the same bytes before and behind: equal CRCs come from equal bytes
apart : (p : List ℕ) (b c : ℕ) (s : List ℕ) → AreBytes p → b < 256 → c < 256 → AreBytes s → crc32 (p ++ b ∷ s) ≡ crc32 (p ++ c ∷ s) → b ≡ c
unfolding crc32 crc_from
apart p b c s hp hb hc hs e =
    byte-told x b c small hb hc
    (from-injective (crc_byte x b) (crc_byte x c) s hs (byte_small x b small hb) (byte_small x c small hc)
    (sym (from-append ones p (b ∷ s))
    ∙ xor-cancel (crc_from ones (p ++ b ∷ s)) (crc_from ones (p ++ c ∷ s)) ones e
    ∙ from-append ones p (c ∷ s)))
  where
    x : ℕ
    x = crc_from ones p

    small : x < limit
    small = from-small ones p hp (lit< tt)

pub bytes_take : (n : ℕ) (s : List ℕ) → AreBytes s → AreBytes (take n s)
bytes_take n s h j =
    elim (dec_lt j n) [
      | yes l ↦ rw (get_or-take n s j 0 l) (h j)
      | no l ↦ rw (get_or-eq_default (take n s) 0 {n = j} (omega (arith, length-take n s))) (lit< tt)
    ]

bytes_drop : (n : ℕ) (s : List ℕ) → AreBytes s → AreBytes (drop n s)
bytes_drop n s h j = rw (get_or-drop n s j 0) (h (n + j))

-- a byte put in place of another changes the CRC, unless it is the same
pub crc-told : (s : List ℕ) (k b : ℕ) → AreBytes s → k < length s → b < 256 → crc32 (set s k b) ≡ crc32 s → b ≡ get_or s k 0
crc-told s k b h l m e =
    apart (take k s) b (get_or s k 0) (drop (suc k) s) (bytes_take k s h) m (h k) (bytes_drop (suc k) s h)
    (ap crc32 (sym (set_split s k b l)) ∙ e ∙ ap crc32 (split_at s k 0 l))

pub crc-small : (s : List ℕ) → AreBytes s → crc32 s < limit
unfolding crc32
crc-small s h = xor_lt 32 (crc_from ones s) ones (from-small ones s h (lit< tt)) (lit< tt)

-- the check value of CRC-32: that of the ASCII bytes 123456789
pub check-value : crc32 (49 ∷ 50 ∷ 51 ∷ 52 ∷ 53 ∷ 54 ∷ 55 ∷ 56 ∷ 57 ∷ []) ≡ 0xCBF43926
unfolding crc32 crc_from crc_byte crc_bits crc_bit
check-value = refl
