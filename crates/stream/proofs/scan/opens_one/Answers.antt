-- `stream::scan::opens_one` meets its contract: each turn asks one byte more.
use mathlib.Core.Path.{refl, ap, ap₂, sym, ◌∙◌}
use mathlib.Core.Bool.{Bool, ◌||◌}
use Prim.Native.Nat.{ℕ}
use native.Mathlib.Numerals.{add-one}
use native.Mathlib.Omega.{arith}
use lib.ListN.{get_or}
use Rattle.sets.specs.Set.{any}
use Rattle.table.specs.Automaton.{automaton}
use Rattle.stream.proofs.scan.opens_one.Goals as goal

pub loop-byte-init : goal.loop-byte-init
unfolding any
loop-byte-init c = refl

pub loop-byte-preserved : goal.loop-byte-preserved
unfolding any
loop-byte-preserved c =
    let l = c.loop-byte in
    let one = λ (i : ℕ). (automaton c.args.words.now).opens (get_or c.args.bytes.now i 0) in
    ap₂ (λ (x y : Bool). x || y) l.invariant c.opens-some.ensures ∙ ap (λ (n : ℕ). any n one) (sym (add-one l.byte-index))

pub returns : goal.returns
returns c =
    let l = c.loop-byte in
    let one = λ (i : ℕ). (automaton c.args.words.now).opens (get_or c.args.bytes.now i 0) in
    l.invariant ∙ ap (λ (n : ℕ). any n one) (omega (arith, l.auto.byte-index-end, c.loop-byte-test.false))
