-- `before` meets its contract: the start, or the byte before.
use mathlib.Core.Path.{◌≡◌, sym, ap, ◌∙◌}
use Prim.Native.Nat.{ℕ, suc, ◌-◌}
use native.Mathlib.Omega.{arith}
use lib.ListN.{take}
use Rattle.meaning.specs.Gap.{known_before}
use Rattle.marks.specs.Parts.{side_code}
use Rattle.marks.proofs.Worlds.{known-last}
use Rattle.marks.proofs.gaps.before.Goals as goal

pub returns-then-k-eq0 : goal.returns-then-k-eq0
unfolding known_before
returns-then-k-eq0 c =
    let c-if1 = c.if-k-eq0 in
    let e : c.args.k ≡ 0 = c-if1.true in
    ap (λ (n : ℕ). side_code (known_before (take n c.args.log.now))) (sym e)

pub returns : goal.returns
returns c =
    let c-if1 = c.if-k-eq0 in
    let c-side = c.side in
    let e : suc (c.args.k - 1) ≡ c.args.k = omega (arith, c-if1.false) in
    c-side.ensures ∙ ap side_code (sym (known-last c.args.log.now (c.args.k - 1) (omega (arith, c.requires, c-if1.false)))) ∙ ap (λ (n : ℕ). side_code (known_before (take n c.args.log.now))) e
