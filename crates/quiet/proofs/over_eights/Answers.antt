-- `quiet::over_eights` meets its contract: each turn passes eight bytes with which no match
-- can begin, and each turn in it asks one of them.
use mathlib.Core.Path.{◌≡◌, refl, sym, ap, ◌∙◌}
use mathlib.Core.Bool.{Bool, true, false, true≢false, ◌||◌}
use mathlib.Core.List.{List}
use Prim.Native.Nat.{ℕ, ◌+◌, ◌<◌}
use native.Mathlib.Decide.{dec_lt}
use native.Mathlib.Omega.{arith}
use lib.ListN.{get_or}
use Rattle.table.specs.Automaton.{Automaton, automaton}
use Rattle.stream.proofs.Quiet.{unopened-none, unopened-more}
use Rattle.quiet.proofs.over_eights.Invariants.{NoneOf}
use Rattle.quiet.proofs.over_eights.Goals as goal

one_more : (w : Automaton) (block : List ℕ) (at i : ℕ) (some next : Bool) → (some ≡ false → NoneOf w block at i) → next ≡ w.opens (get_or block (at + i) 0)
    → (some || next) ≡ false → NoneOf w block at (i + 1)
one_more w block at i true next h e q j f g = absurd (true≢false q)
one_more w block at i false next h e q j f g = go (dec_lt j (at + i))
  where
    go : Dec (j < at + i) → w.opens (get_or block j 0) ≡ false
    go (yes l) = h refl j f l
    go (no l) = let same : j ≡ at + i = omega arith in ap (λ (k : ℕ). w.opens (get_or block k 0)) same ∙ sym e ∙ q

pub loop-at-init : goal.loop-at-init
loop-at-init c =
    unopened-none (automaton c.args.words.now) c.args.block.now c.args.from c.args.end c.requires.0

pub overflow_sub-end : goal.overflow_sub-end
overflow_sub-end c = c.loop-at.invariant.inside

pub loop-i-init : goal.loop-i-init
loop-i-init c = (omega arith, λ e j f g. absurd (omega arith))

pub overflow_add-at : goal.overflow_add-at
overflow_add-at c = omega (arith, c.loop-at.invariant.inside)

pub bounds-block-at : goal.bounds-block-at
bounds-block-at c = omega (arith, c.loop-at.invariant.inside)

pub loop-i-preserved : goal.loop-i-preserved
loop-i-preserved c =
    let inner = c in
    let outer = inner.before.before in
    let a = outer.args in
    let l = inner.loop-i in
    (omega arith, one_more (automaton a.words.now) a.block.now outer.loop-at.at l.i l.some c.opens-some.result l.invariant.1 c.opens-some.ensures)

pub returns-then-some : goal.returns-then-some
returns-then-some c = c.loop-at.invariant

pub overflow_add-at-in-loop-at : goal.overflow_add-at-in-loop-at
overflow_add-at-in-loop-at c = omega (arith, c.loop-at.invariant.inside)

pub loop-at-smaller : goal.loop-at-smaller
loop-at-smaller c = omega (arith, c.loop-at.invariant.inside)

pub loop-at-preserved : goal.loop-at-preserved
loop-at-preserved c =
    let inner = c in
    let outer = inner.before.before in
    let a = outer.args in
    let l = outer.loop-at in
    let k = inner.loop-i in
    let all : k.i ≡ 8 = omega arith in
    unopened-more (automaton a.words.now) a.block.now a.from a.end l.at 8 l.invariant (omega (arith, l.invariant.inside))
    (λ j f g. k.invariant.1 c.if-some.false j f (omega arith))

pub returns : goal.returns
returns c = c.loop-at.invariant
