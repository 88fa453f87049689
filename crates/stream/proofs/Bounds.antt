-- What the code asks of numbers: places inside a list, sums and products that fit a word. Each is
-- stated over plain numbers, since `omega` is dear where all that is known of a call is in reach.
use mathlib.Core.Path.{◌≡◌}
use mathlib.Core.List.{List}
use Prim.Native.Nat.{ℕ, ◌+◌, ◌-◌, ◌*◌, ◌^◌, ◌<◌, ◌≤◌, min}
use native.Mathlib.Omega.{arith}
use mir.Syntax.{w64}
use mir.Val.{Fits}
use Rattle.table.specs.Layout.{table_words, max_rules, rules_of}
use Rattle.table.specs.Automaton.{automaton}
use Rattle.stream.specs.Valid.{stream_limit}

-- the words of a table's header
pub rules-word : (n : ℕ) → table_words ≤ n → 1 < n
rules-word n h = omega arith

pub positions-word : (n : ℕ) → table_words ≤ n → 2 < n
positions-word n h = omega arith

-- the end of what can be paid for: that of the block, or as many bytes on as there are units
pub short-end : (end n m : ℕ) → end ≡ min n m → end ≤ n
short-end end n m e = omega arith

pub from_end : (at end n left : ℕ) → at ≤ n → end ≡ min n (at + left) → at ≤ end
from_end at end n left h e = omega arith

pub before-end : (to end n m : ℕ) → to ≤ end → (to ≡ end → ⊥) → end ≡ min n m → to < n
before-end to end n m h d e = omega arith

pub paid_for : (at to end n left : ℕ) → to ≤ end → end ≡ min n (at + left) → to - at ≤ left
paid_for at to end n left h e = omega arith

-- sums and products
pub sum_fits : (a b n : ℕ) → a + n < 2 ^ 64 → b ≤ n → Fits w64 (a + b)
sum_fits a b n h l = record { fits = omega arith }

pub next_small : (a b n : ℕ) → a + n < 2 ^ 64 → b < n → a + b + 1 < 2 ^ 64
next_small a b n h l = omega arith

pub after-fits : (a b n : ℕ) → a + n < 2 ^ 64 → b < n → Fits w64 (b + 1)
after-fits a b n h l = record { fits = omega arith }

-- a number for each rule
pub dues-fit : (m n : ℕ) → m ≤ 64 → n ≤ 64 → Fits w64 (m + n)
dues-fit m n h l = record { fits = omega arith }

-- a stream stays within its limit
pub short-fits : (a n : ℕ) → a + n ≤ stream_limit → a + n < 2 ^ 64
short-fits a n h = omega arith

-- what fits in the shorter of two lists fits in each
pub enough-left : (n a b : ℕ) → n ≤ min a b → n ≤ a
enough-left n a b h = omega arith

pub enough-right : (n a b : ℕ) → n ≤ min a b → n ≤ b
enough-right n a b h = omega arith

-- a count of elements of a list, and their bytes
pub count_fits : (n a b : ℕ) → n ≤ min a b → a * 4 < 2 ^ 63 → Fits w64 n
count_fits n a b h l = record { fits = omega arith }

pub ids_fit : (n a b : ℕ) → n ≤ min a b → a * 4 < 2 ^ 63 → Fits w64 (n * 4)
ids_fit n a b h l = record { fits = omega arith }

pub offsets_fit : (n a b : ℕ) → n ≤ min a b → b * 8 < 2 ^ 63 → Fits w64 (n * 8)
offsets_fit n a b h l = record { fits = omega arith }

-- and the place after one of them
pub next_fits : (n a b : ℕ) → n < min a b → a * 4 < 2 ^ 63 → Fits w64 (n + 1)
next_fits n a b h l = record { fits = omega arith }

-- ---- the rules of a table

-- a word has a digit for each rule
pub rules-few : (t : List ℕ) → rules_of t ≤ max_rules → (automaton t).rules ≤ 64
unfolding automaton
rules-few t h = omega arith

pub twice-fits : (n : ℕ) → n ≤ max_rules → Fits w64 (2 * n)
twice-fits n h = record { fits = omega arith }
