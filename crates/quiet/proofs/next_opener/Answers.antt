-- `quiet::next_opener` meets its contract: each turn passes one byte with which no match can
-- begin.
use mathlib.Core.Path.{◌≡◌, sym, ap, ◌∙◌, subst}
use Prim.Native.Nat.{ℕ}
use native.Mathlib.Omega.{arith}
use lib.ListN.{get_or}
use Rattle.table.specs.Automaton.{automaton}
use Rattle.stream.specs.Invariants.{NoOpener}
use Rattle.stream.proofs.Quiet.{unopened-none, unopened-more}
use Rattle.quiet.proofs.next_opener.Goals as goal

pub returns-then-words-lt-TABLE_WORDS : goal.returns-then-words-lt-TABLE_WORDS
returns-then-words-lt-TABLE_WORDS c =
    unopened-none (automaton c.args.words.now) c.args.block.now c.args.from c.args.end c.requires.0

pub over_eights-start-requires : goal.over_eights-start-requires
over_eights-start-requires c = c.requires

pub loop-at-init : goal.loop-at-init
loop-at-init c = c.over_eights-start.ensures

pub returns-then-opens : goal.returns-then-opens
returns-then-opens c = c.loop-at.invariant

pub loop-at-preserved : goal.loop-at-preserved
loop-at-preserved c =
    let l = c.loop-at in
    let a = c.args in
    let b = a.block.now in
    let w = automaton a.words.now in
    unopened-more w b a.from a.end l.at 1 l.invariant (omega arith) (λ j f g.
    let same : j ≡ l.at = omega arith in
    ap (λ (k : ℕ). w.opens (get_or b k 0)) same ∙ sym c.opens.ensures ∙ c.if-opens.false)

pub returns : goal.returns
returns c =
    let l = c.loop-at in
    let a = c.args in
    let end : l.at ≡ a.end = omega (arith, l.invariant.inside, c.loop-at-test.false) in
    subst (NoOpener (automaton a.words.now) a.block.now a.from a.end) end l.invariant
