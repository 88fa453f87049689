-- `sets::mask` meets its contract: in each of the three cases the number of digits to set is known.
use mathlib.Core.Path.{◌≡◌, ap, ◌∙◌}
use Prim.Native.Nat.{ℕ, ◌-◌, ◌^◌, min}
use native.Mathlib.Omega.{arith}
use lib.Pow.{pow_pos}
use Rattle.sets.proofs.Bits.{shl_one}
use Rattle.sets.proofs.mask.Goals as goal

pub returns-then-n-base : goal.returns-then-n-base
returns-then-n-base c =
    let none : 0 ≡ min (c.args.n - c.args.base) 64 = omega arith in
    ap (λ (k : ℕ). 2 ^ k - 1) none

pub returns-then-n-base-ge64 : goal.returns-then-n-base-ge64
returns-then-n-base-ge64 c =
    let all : 64 ≡ min (c.args.n - c.args.base) 64 = omega arith in
    ap (λ (k : ℕ). 2 ^ k - 1) all

pub overflow_sub-result-2 : goal.overflow_sub-result-2
overflow_sub-result-2 c =
    let k = c.args.n - c.args.base in
    omega (arith, shl_one k (omega arith), pow_pos k)

pub returns : goal.returns
returns c =
    let k = c.args.n - c.args.base in
    let some : k ≡ min k 64 = omega arith in
    ap (λ (x : ℕ). x - 1) (shl_one k (omega arith)) ∙ ap (λ (i : ℕ). 2 ^ i - 1) some
