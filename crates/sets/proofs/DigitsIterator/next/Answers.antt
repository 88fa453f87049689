-- A turn of `Digits` clears a digit, so fewer are left.
use Rattle.std.proofs.Common.{rules, ℕ, ◌-◌, ◌<◌, Fits, w64, bit_and}
use Rattle.std.specs.Int.Count.{ones}
use native.Mathlib.Omega.{arith}
use Rattle.sets.proofs.Bits.{ones-clear}
use Rattle.sets.proofs.DigitsIterator.next.Goals as goal

pub returns-clause-goes : goal.returns-clause-goes
returns-clause-goes c =
    let w : ℕ = c.args.self.now.0 in
    let fits : Fits w64 w = search rules in
    let fewer : ones (bit_and w (w - 1)) < ones w = omega (arith, ones-clear 64 w fits.fits (omega (arith, c.if-self-eq0.false))) in
    search (rules, fewer)
