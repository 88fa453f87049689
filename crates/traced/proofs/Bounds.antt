-- Numbers that fit their types, and places inside their lists.
use Prim.Native.Nat.{ℕ, ◌+◌, ◌-◌, ◌*◌, ◌^◌, ◌<◌, ◌≤◌}
use native.Mathlib.Omega.{arith}
use mir.Syntax.{w64}
use mir.Val.{Fits}
use Rattle.stream.specs.Valid.{stream_limit}
pub use Rattle.starts.proofs.Bounds.{digit-fits}

-- ---- a place of sixty-four

pub eight-fit : (i : ℕ) → i < 64 → Fits w64 (i * 8)
eight-fit i l = record { fits = omega arith }

-- ---- a place of a list

module _ (n a : ℕ) (h : n < a) where
  pub place-fits-4 : a * 4 < 2 ^ 63 → Fits w64 (n * 4)
  place-fits-4 m = record { fits = omega arith }

  pub place-fits-8 : a * 8 < 2 ^ 63 → Fits w64 (n * 8)
  place-fits-8 m = record { fits = omega arith }

  pub next_place : a * 4 < 2 ^ 63 → Fits w64 (n + 1)
  next_place m = record { fits = omega arith }

-- as many places as a list has at most
module _ (n a : ℕ) (h : n ≤ a) where
  pub places-fit-4 : a * 4 < 2 ^ 63 → Fits w64 (n * 4)
  places-fit-4 m = record { fits = omega arith }

  pub places-fit-8 : a * 8 < 2 ^ 63 → Fits w64 (n * 8)
  places-fit-8 m = record { fits = omega arith }

  pub count_fits : a * 4 < 2 ^ 63 → Fits w64 n
  count_fits m = record { fits = omega arith }

-- ---- the bytes taken

module _ (taken n at : ℕ) (h : taken + (n - at) ≤ stream_limit) (l : at < n) where
  pub next_small : taken + 1 < 2 ^ 63
  next_small = omega arith

  pub next_fits : Fits w64 (taken + 1)
  next_fits = record { fits = omega arith }

pub pass_fits : (taken n at to : ℕ) → taken + (n - at) ≤ stream_limit → to ≤ n → Fits w64 (taken + (to - at))
pass_fits taken n at to h l = record { fits = omega arith }

pub at-fits : (at n : ℕ) → at < n → n < 2 ^ 63 → Fits w64 (at + 1)
at-fits at n h l = record { fits = omega arith }

pub block-short : (n : ℕ) → n * 1 < 2 ^ 63 → n < 2 ^ 63
block-short n h = omega arith
