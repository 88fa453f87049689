-- `build` meets its contract: the count says whether the positions fit, and then it is the number
-- of positions.
use mathlib.Core.Path.{◌∙◌}
use Prim.Native.Nat.{ℕ, ◌+◌, ◌≤◌, ◌<◌}
use native.Mathlib.Omega.{arith}
use Rattle.meaning.specs.Form.{write, positions}
use Rattle.meaning.specs.Count.{capped, saturating}
use Rattle.meaning.proofs.Counted.{saturated}
use Rattle.nodes.specs.Nodes.{Syntax, tree_at}
use Rattle.automaton.proofs.Padded.{parts_none, parts_whole}
use Rattle.automaton.proofs.build.Goals as goal
use Rattle.automaton.proofs.build.Goals.{then-n-gt256-via-then-n-gt256, then-n-gt256-via-else-n-gt256+then-base-n}

-- the saturating count decides what the number of positions does
over : (t : Syntax) (b : ℕ) → 256 < b + saturating t → 256 < b + positions (write t)
unfolding capped
over t b h = omega (arith, saturated t)

within : (t : Syntax) (b : ℕ) → b + saturating t ≤ 256 → b + positions (write t) ≤ 256
unfolding capped
within t b h = omega (arith, saturated t)

pub returns-then-n-gt256 : goal.returns-then-n-gt256
returns-then-n-gt256 c =
    let v = c.args in
    let t = tree_at v.nodes.now v.root in
    c.none.ensures ∙ parts_none t v.base v.world (elim c.then-n-gt256.branch [
      | then-n-gt256-via-then-n-gt256 w ↦ over t v.base (omega (arith, c.count-n.ensures, w.if-n-gt256.true))
      | then-n-gt256-via-else-n-gt256+then-base-n w ↦ over t v.base (omega (arith, c.count-n.ensures, w.if-n-gt256.false, w.if-base-n.true))
    ])

pub whole-requires : goal.whole-requires
whole-requires c =
    let v = c.args in
    let t = tree_at v.nodes.now v.root in
    within t v.base (omega (arith, c.count-n.ensures))

pub returns : goal.returns
returns c =
    let v = c.args in
    let t = tree_at v.nodes.now v.root in
    c.whole.ensures ∙ parts_whole t v.base v.world (within t v.base (omega (arith, c.count-n.ensures)))
