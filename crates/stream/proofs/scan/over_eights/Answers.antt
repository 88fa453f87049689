-- `stream::scan::over_eights` meets its contract: each turn passes eight bytes with which no match
-- can begin.
use mathlib.Core.Path.{◌≡◌, sym, ap, ◌∙◌}
use mathlib.Core.Bool.{false}
use mathlib.Core.List.{List}
use Prim.Native.Nat.{ℕ, ◌+◌, ◌-◌, ◌<◌, ◌≤◌}
use native.Mathlib.Omega.{arith}
use lib.ListN.{length, get_or, take, drop, length-drop}
use Rattle.std.proofs.lemmas.List.{get_or-take, get_or-drop, length-take-le}
use Rattle.sets.specs.Set.{any}
use Rattle.sets.proofs.Laws.{any_none}
use Rattle.table.specs.Automaton.{Automaton, automaton}
use Rattle.stream.proofs.Quiet.{unopened-none, unopened-more}
use Rattle.stream.proofs.scan.over_eights.Goals as goal

-- a byte of the eight, which are a part of the block
eight : (w : Automaton) (block : List ℕ) (at : ℕ) → at + 8 ≤ length block → any (length (take (at + 8 - at) (drop at block))) (λ i. w.opens (get_or (take (at + 8 - at) (drop at block)) i 0)) ≡ false
    → (j : ℕ) → at ≤ j → j < at + 8 → w.opens (get_or block j 0) ≡ false
eight w block at long e j l m =
    let n : at + 8 - at ≡ 8 = omega arith in
    let size : length (take (at + 8 - at) (drop at block)) ≡ 8 = length-take-le (at + 8 - at) (drop at block) (omega (arith, length-drop at block)) ∙ n in
    let same : at + (j - at) ≡ j = omega arith in
    let byte : get_or (take (at + 8 - at) (drop at block)) (j - at) 0 ≡ get_or block j 0 =
    get_or-take (at + 8 - at) (drop at block) (j - at) 0 (omega arith) ∙ get_or-drop at block (j - at) 0 ∙ ap (λ (k : ℕ). get_or block k 0) same in
    sym (ap w.opens byte) ∙ any_none (length (take (at + 8 - at) (drop at block))) (λ i. w.opens (get_or (take (at + 8 - at) (drop at block)) i 0)) e (j - at) (omega arith)

pub loop-at-init : goal.loop-at-init
loop-at-init c =
    unopened-none (automaton c.args.words.now) c.args.block.now c.args.from c.args.end c.requires.0

pub overflow_sub-end : goal.overflow_sub-end
overflow_sub-end c = c.loop-at.invariant.inside

pub returns-then-opens_one : goal.returns-then-opens_one
returns-then-opens_one c = c.loop-at.invariant

pub overflow_add-at : goal.overflow_add-at
overflow_add-at c = omega (arith, c.loop-at.invariant.inside)

pub loop-at-smaller : goal.loop-at-smaller
loop-at-smaller c = omega (arith, c.loop-at.invariant.inside)

pub loop-at-preserved : goal.loop-at-preserved
loop-at-preserved c =
    let l = c.loop-at in
    let a = c.args in
    let w = automaton a.words.now in
    let b = a.block.now in
    unopened-more w b a.from a.end l.at 8 l.invariant (omega (arith, l.invariant.inside)) (eight w b l.at (omega (arith, l.invariant.inside)) (sym c.opens_one.ensures ∙ c.if-opens_one.false))

pub returns : goal.returns
returns c = c.loop-at.invariant
