-- `second::builder::is_quiet` meets its contract: it joins the tests in the order of `quiet_at`.
use native.Mathlib.Omega.{arith}
use mathlib.Core.Path.{ap, ◌∙◌}
use mathlib.Core.Bool.{not, ◌&&◌}
use Prim.Native.Nat.{ℕ, ◌+◌}
use lib.Dec.{eqb}
use lib.ListN.{get_or}
use Rattle.sets.specs.Set.{is_empty}
use Rattle.kinds.specs.Side.{side_word}
use Rattle.kinds.proofs.Sides.{side-small}
use Rattle.second.specs.Layout.{record_at, entry_own}
use Rattle.second.specs.Invariants.{quiet_at}
use Rattle.second.proofs.builder.is_quiet.Goals as goal

pub overflow_add-silent-2 : goal.overflow_add-silent-2
overflow_add-silent-2 c =
    omega (arith, c.from-side.ensures, side-small c.side_of.result, c.requires.0, c.requires.1)

pub offset_bounds-second-from : goal.offset_bounds-second-from
offset_bounds-second-from c =
    omega (arith, c.from-side.ensures, side-small c.side_of.result, c.requires.0, c.requires.1)

pub bounds-second-from : goal.bounds-second-from
bounds-second-from c =
    omega (arith, c.from-side.ensures, side-small c.side_of.result, c.requires.0, c.requires.1)

pub returns : goal.returns
unfolding quiet_at
returns c =
    let a = c.args in
    let c₀ = a.second.now in
    let late = ap (λ (m : ℕ). get_or c₀ (record_at a.e + 11 + m) 0) (c.from-side.ensures ∙ ap side_word c.side_of.ensures) in
    let before = c.is_empty.ensures ∙ ap is_empty c.words_at-before.ensures in
    let after = c.is_empty-2.ensures ∙ ap is_empty c.words_at-after.ensures in
    λ i. (eqb (late i) 0 && eqb (entry_own c₀ a.j) 0) && not (before i && after i)
