-- `forms::holds` meets its contract: it reads one digit, and the digit's number is that of the
-- assertion.
use mathlib.Core.Path.{◌≡◌, sym, ap, ◌∙◌}
use Prim.Native.Nat.{ℕ, ◌/◌, ◌^◌}
use lib.Bits.{bit_and, and_mask}
use lib.Dec.{eqb}
use Rattle.sets.specs.Set.{on}
use Rattle.nodes.specs.Nodes.{code_of}
use Rattle.nodes.specs.Node.{meant}
use Rattle.nodes.specs.declared.layout.Assertion.{Assertion}
use Rattle.automaton.specs.Parts.{world_of}
use Rattle.automaton.proofs.forms.holds.Goals as goal
use Rattle.automaton.proofs.forms.holds.Goals.{in-AtStart, in-AtEnd, in-AtLastLine, in-LineStart, in-LineEnd, in-WordEdge, in-NoWordEdge}

digit-read : (world d : ℕ) (a : Assertion) → d ≡ code_of (meant a) → eqb (bit_and (world / 2 ^ d) 1) 1 ≡ world_of world (meant a)
unfolding on
digit-read world d a e = ap (λ (w : ℕ). eqb w 1) (and_mask (world / 2 ^ d) 1) ∙ ap (on world) e

abbrev number : Assertion → ℕ
number a = code_of (meant a)

pub returns : goal.returns
returns c =
    let v = c.args in
    let m = c.match-assertion in
    digit-read v.world m.digit v.assertion
    (elim m.branch [
      | in-AtStart w ↦ w.digit-is ∙ ap number (sym w.in-AtStart.is)
      | in-AtEnd w ↦ w.digit-is ∙ ap number (sym w.in-AtEnd.is)
      | in-AtLastLine w ↦ w.digit-is ∙ ap number (sym w.in-AtLastLine.is)
      | in-LineStart w ↦ w.digit-is ∙ ap number (sym w.in-LineStart.is)
      | in-LineEnd w ↦ w.digit-is ∙ ap number (sym w.in-LineEnd.is)
      | in-WordEdge w ↦ w.digit-is ∙ ap number (sym w.in-WordEdge.is)
      | in-NoWordEdge w ↦ w.digit-is ∙ ap number (sym w.in-NoWordEdge.is)
    ])
