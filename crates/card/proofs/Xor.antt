-- Laws of exclusive or that the library leaves out: it is associative, so what is added can be
-- taken off again. By the lowest digits and the halves above them.
use mathlib.Core.Path.{◌≡◌, refl, sym, ap, ap₂, ◌∙◌}
use Prim.Native.Nat.{ℕ, zero, suc, ◌+◌, ◌*◌, ◌/◌, ◌%◌, ◌<◌}
use native.Mathlib.Nat.{mod-lt, zero-lt-suc}
use native.Mathlib.Omega.{arith}
use lib.Arith.{bin_ind, digits_div, digits_mod}
use lib.Bits.{bit_xor, differ, xor_step, xor_self, xor_zero_r, xor_comm}

two : zero < 2
two = zero-lt-suc 1

-- ---- digits

differ-two : (x y : ℕ) → x < 2 → y < 2 → differ x y < 2
differ-two zero y p q = q
differ-two (suc zero) zero p q = omega arith
differ-two (suc zero) (suc zero) p q = omega arith
differ-two (suc zero) (suc (suc y)) p q = absurd (omega arith)
differ-two (suc (suc x)) y p q = absurd (omega arith)

differ-assoc : (x y z : ℕ) → x < 2 → y < 2 → z < 2 → differ (differ x y) z ≡ differ x (differ y z)
differ-assoc zero y z p q r = refl
differ-assoc (suc zero) zero z p q r = refl
differ-assoc (suc zero) (suc zero) zero p q r = refl
differ-assoc (suc zero) (suc zero) (suc zero) p q r = refl
differ-assoc (suc zero) (suc zero) (suc (suc z)) p q r = absurd (omega arith)
differ-assoc (suc zero) (suc (suc y)) z p q r = absurd (omega arith)
differ-assoc (suc (suc x)) y z p q r = absurd (omega arith)

-- ---- the half and the lowest digit

digit : (a b : ℕ) → differ (a % 2) (b % 2) < 2
digit a b = differ-two (a % 2) (b % 2) (mod-lt a two) (mod-lt b two)

pub xor-half : (a b : ℕ) → bit_xor a b / 2 ≡ bit_xor (a / 2) (b / 2)
xor-half a b = ap (λ (x : ℕ). x / 2) (xor_step a b) ∙ digits_div (bit_xor (a / 2) (b / 2)) (digit a b)

pub xor_low : (a b : ℕ) → bit_xor a b % 2 ≡ differ (a % 2) (b % 2)
xor_low a b = ap (λ (x : ℕ). x % 2) (xor_step a b) ∙ digits_mod (bit_xor (a / 2) (b / 2)) (digit a b)

-- an even number leaves the lowest digit
pub xor-even : (a h : ℕ) → bit_xor a (h * 2) % 2 ≡ a % 2
xor-even a h =
    let e : h * 2 % 2 ≡ 0 = omega arith in
    xor_low a (h * 2) ∙ ap (differ (a % 2)) e ∙ none (a % 2)
  where
    none : (d : ℕ) → differ d 0 ≡ d
    none zero = refl
    none (suc d) = refl

pub xor-even-half : (a h : ℕ) → bit_xor a (h * 2) / 2 ≡ bit_xor (a / 2) h
xor-even-half a h =
    let e : h * 2 / 2 ≡ h = omega arith in
    xor-half a (h * 2) ∙ ap (bit_xor (a / 2)) e

-- ---- associativity, and what follows

pub xor_assoc : (a b c : ℕ) → bit_xor (bit_xor a b) c ≡ bit_xor a (bit_xor b c)
xor_assoc a =
    bin_ind (λ (n : ℕ). (b c : ℕ) → bit_xor (bit_xor n b) c ≡ bit_xor n (bit_xor b c)) (λ b c. refl)
    (λ n ih b c.
    xor_step (bit_xor n b) c
    ∙ ap₂ (λ (x y : ℕ). x * 2 + y)
    (ap (λ (x : ℕ). bit_xor x (c / 2)) (xor-half n b) ∙ ih (b / 2) (c / 2) ∙ ap (bit_xor (n / 2)) (sym (xor-half b c)))
    (ap (λ (x : ℕ). differ x (c % 2)) (xor_low n b) ∙ differ-assoc (n % 2) (b % 2) (c % 2) (mod-lt n two) (mod-lt b two) (mod-lt c two)
    ∙ ap (differ (n % 2)) (sym (xor_low b c)))
    ∙ sym (xor_step n (bit_xor b c))) a

-- what was added is taken off
pub xor-twice : (a c : ℕ) → bit_xor (bit_xor a c) c ≡ a
xor-twice a c = xor_assoc a c c ∙ ap (bit_xor a) (xor_self c) ∙ xor_zero_r a

pub xor-cancel : (a b c : ℕ) → bit_xor a c ≡ bit_xor b c → a ≡ b
xor-cancel a b c e = sym (xor-twice a c) ∙ ap (λ (x : ℕ). bit_xor x c) e ∙ xor-twice b c

pub xor-cancel-l : (a b c : ℕ) → bit_xor c a ≡ bit_xor c b → a ≡ b
xor-cancel-l a b c e = xor-cancel a b c (xor_comm a c ∙ e ∙ xor_comm c b)

-- the two later of three change places
pub xor-swap : (a b c : ℕ) → bit_xor (bit_xor a b) c ≡ bit_xor (bit_xor a c) b
xor-swap a b c = xor_assoc a b c ∙ ap (bit_xor a) (xor_comm b c) ∙ sym (xor_assoc a c b)
