-- `rules::write::put_gaps` meets its contract. The loop's invariant: the sets of the gaps before
-- `g` are put in. Without an assertion the parts of the first gap are those of all.
use mathlib.Core.Path.{◌≡◌, refl, ap, ◌∙◌}
use mathlib.Core.Bool.{false}
use Prim.Native.Nat.{ℕ}
use native.Mathlib.Omega.{arith}
use Rattle.table.specs.Gaps.{first_gaps}
use Rattle.nodes.specs.Nodes.{asserts, tree_at}
use Rattle.automaton.specs.Parts.{parts_of}
use Rattle.automaton.specs.declared.Parts.{Parts}
use Rattle.automaton.proofs.Unasserted.{same_parts}
use Rattle.rules.specs.Gaps.{holding_at, parts_at}
use Rattle.rules.specs.Invariants.{gaps_put}
use Rattle.rules.proofs.Parts.{sized, sized-parts}
use Rattle.rules.proofs.Steps.{gaps-none, gaps-turn}
use Rattle.rules.proofs.write.put_gaps.Goals as goal
use Rattle.rules.proofs.write.put_gaps.Goals.{then-asserts, else-asserts}

pub loop-g-init : goal.loop-g-init
loop-g-init c = record {
  long = refl;
  put = gaps-none c.args.n (parts_at (tree_at c.args.nodes.now c.args.root) c.args.n) c.args.words.now;
}

pub put_gap-requires : goal.put_gap-requires
put_gap-requires c =
    let a = c.args in
    let e = ap (λ (p : Parts). p.positions) c.build.ensures ∙ sized-parts (tree_at a.nodes.now a.root) a.n c.holding.result c.requires.1 in
    omega (arith, e, c.loop-g.invariant.long)

pub put_gap-requires-else-asserts : goal.put_gap-requires-else-asserts
put_gap-requires-else-asserts c =
    let a = c.args in
    omega (arith, sized (tree_at a.nodes.now a.root) a.n (holding_at 0) c.requires.1 a.parts.now c.requires.2, c.loop-g.invariant.long)

pub loop-g-preserved : goal.loop-g-preserved
loop-g-preserved c =
    let a = c.args in
    let l = c.loop-g in
    let x = tree_at a.nodes.now a.root in
    elim c.if-asserts.branch [
      | then-asserts w ↦ record {
        long = omega arith;
        put = w.words-is ∙ gaps-turn l.g a.n (parts_at x a.n) w.build.result a.words.now l.words w.put_gap.new.words l.invariant.put (w.build.ensures ∙ ap (parts_of x a.n) w.holding.ensures) w.put_gap.ensures;
      }
      | else-asserts w ↦
          let free : asserts x ≡ false = cc in
          record {
            long = omega arith;
            put = w.words-is ∙ gaps-turn l.g a.n (parts_at x a.n) a.parts.now a.words.now l.words w.put_gap-else-asserts.new.words l.invariant.put (c.requires.2 ∙ same_parts x free a.n (holding_at 0) (holding_at l.g)) w.put_gap-else-asserts.ensures;
          }
    ]

pub returns : goal.returns
returns c =
    let a = c.args in
    let l = c.loop-g in
    let e : l.g ≡ first_gaps = omega arith in
    l.invariant.put ∙ ap (λ (m : ℕ). gaps_put m a.n (parts_at (tree_at a.nodes.now a.root) a.n) a.words.now) e
