-- `stream::scan::ahead` meets its contract: a live set with a member is not passed over, nor is the
-- first byte of the stream, and each turn passes one byte with which no match can begin.
use mathlib.Core.Path.{◌≡◌, refl, sym, ap, ◌∙◌, subst}
use mathlib.Core.List.{List}
use mathlib.Core.Bool.{Bool, true, false, not, ◌||◌, true≢false}
use Prim.Native.Nat.{ℕ, ◌+◌, ◌<◌, min}
use native.Mathlib.Omega.{arith}
use lib.Dec.{eqb}
use lib.ListN.{length, get_or}
use borrow.Author.Tests.{not-false, eqb-false}
use Rattle.sets.specs.Set.{is_empty}
use Rattle.sets.proofs.Laws.{Words, empty-is}
use Rattle.table.specs.Automaton.{automaton}
use Rattle.steps.proofs.Bounds.{words-good}
use Rattle.stream.specs.Invariants.{NoOpener, Skipped}
use Rattle.stream.proofs.Bounds.{sum_fits, short-end, from_end}
use Rattle.stream.proofs.Quiet.{unopened-more, unopened-skipped, skipped-none}
use Rattle.stream.proofs.scan.ahead.Goals as goal

neither : (x y z : Bool) → ((x || y) || z) ≡ false → (x ≡ false) × (y ≡ false)
neither true y z e = absurd (true≢false e)
neither false true z e = absurd (true≢false e)
neither false false z e = (refl, refl)

positive : (n : ℕ) → eqb n 0 ≡ false → 0 < n
positive n e = omega (arith, eqb-false n 0 e)

pub overflow_add-taken : goal.overflow_add-taken
overflow_add-taken c =
    let start = c in
    sum_fits start.args.taken start.args.from (length start.args.block.now) start.requires.1 start.requires.0

pub returns-then-is_empty-taken : goal.returns-then-is_empty-taken
returns-then-is_empty-taken c =
    let start = c in
    let a = start.args in
    let n = length a.block.now in
    skipped-none (automaton a.words.now) a.block.now a.taken a.from a.live (min n (a.from + a.units)) (from_end a.from (min n (a.from + a.units)) n a.units start.requires.0 refl)

pub payable-end-requires : goal.payable-end-requires
payable-end-requires c = c.requires.0

-- nothing is live and the stream has begun, so what was passed over changes nothing
passed : (t block live : List ℕ) (taken from end to at : ℕ) → Words live → (empty few : Bool) → empty ≡ is_empty live → ((not empty || eqb (taken + from) 0) || few) ≡ false
    → end ≡ to → NoOpener (automaton t) block from end at → Skipped (automaton t) live block taken from to at
passed t block live taken from end to at w empty few e f g none =
    let both = neither (not empty) (eqb (taken + from) 0) few f in
    subst (λ (n : ℕ). Skipped (automaton t) live block taken from n at) g
    (unopened-skipped (automaton t) live block taken from end at
    (empty-is live w (sym e ∙ not-false empty both.0))
    (positive (taken + from) both.1) none)

pub over_eights-start-requires : goal.over_eights-start-requires
over_eights-start-requires c =
    let a = c.args in (
      from_end a.from c.payable-end.result (length a.block.now) a.units c.requires.0 c.payable-end.ensures,
      short-end c.payable-end.result (length a.block.now) (a.from + a.units) c.payable-end.ensures,
    )

pub loop-at-init : goal.loop-at-init
loop-at-init c = c.over_eights-start.ensures

pub bounds-block-at : goal.bounds-block-at
bounds-block-at c =
    let a = c.args in
    let inside = short-end c.payable-end.result (length a.block.now) (a.from + a.units) c.payable-end.ensures in
    omega arith

pub returns-then-opens : goal.returns-then-opens
returns-then-opens c =
    let a = c.args in
    passed a.words.now a.block.now a.live a.taken a.from c.payable-end.result (min (length a.block.now) (a.from + a.units)) c.loop-at.at (words-good a.live _ c.well_formed.0) c.is_empty.result _ c.is_empty.ensures c.if-is_empty-taken.false c.payable-end.ensures c.loop-at.invariant

pub loop-at-preserved : goal.loop-at-preserved
loop-at-preserved c =
    let l = c.loop-at in
    let a = c.args in
    let b = a.block.now in
    let w = automaton a.words.now in
    unopened-more w b a.from c.payable-end.result l.at 1 l.invariant (omega arith) (λ j f g.
    let same : j ≡ l.at = omega arith in
    ap (λ (k : ℕ). w.opens (get_or b k 0)) same ∙ sym c.opens.ensures ∙ c.if-opens.false)

pub returns : goal.returns
returns c =
    let a = c.args in
    let l = c.loop-at in
    let b = a.block.now in
    let end : l.at ≡ c.payable-end.result = omega (arith, l.invariant.inside, c.loop-at-test.false) in
    passed a.words.now b a.live a.taken a.from c.payable-end.result (min (length b) (a.from + a.units)) c.payable-end.result (words-good a.live _ c.well_formed.0) c.is_empty.result _ c.is_empty.ensures c.if-is_empty-taken.false c.payable-end.ensures
    (subst (NoOpener (automaton a.words.now) b a.from c.payable-end.result) end l.invariant)
