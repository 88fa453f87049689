-- Sixty-four words of a list: numbers that fit their types, and places inside the list.
use mathlib.Core.Path.{◌≡◌}
use Prim.Native.Nat.{ℕ, ◌+◌, ◌-◌, ◌*◌, ◌^◌, ◌<◌, ◌≤◌}
use native.Mathlib.Omega.{arith}
use mir.Syntax.{w32, w64}
use mir.Val.{Fits}

module _ (base i n : ℕ) (h : base + 64 ≤ n) (l : i < 64) where
  pub block-fits : n * 8 < 2 ^ 63 → Fits w64 (base + i)
  block-fits m = record { fits = omega arith }

  pub block-bytes-fit : n * 8 < 2 ^ 63 → Fits w64 ((base + i) * 8)
  block-bytes-fit m = record { fits = omega arith }

  pub block_inside : base + i < n
  block_inside = omega arith

module _ (i : ℕ) (l : i < 64) where
  pub digit-fits : Fits w64 i
  digit-fits = record { fits = omega arith }

  pub turn-fits : Fits w64 (i + 1)
  turn-fits = record { fits = omega arith }

  pub turn-fits-32 : Fits w32 (i + 1)
  turn-fits-32 = record { fits = omega arith }

  pub turn-less : 64 - (i + 1) < 64 - i
  turn-less = omega arith

pub whole : (i : ℕ) → i ≤ 64 → 64 ≤ i → i ≡ 64
whole i h l = omega arith
