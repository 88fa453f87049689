-- `rows::front` meets its contract: after i turns the first i words are moved.
use mathlib.Core.Path.{◌≡◌, refl, sym, ap, ap₂, ◌∙◌}
use mathlib.Core.List.{List}
use Prim.Native.Nat.{ℕ, ◌+◌, ◌-◌}
use native.Mathlib.Omega.{arith}
use borrow.Author.Rules.{rules}
use lib.ListN.{length, get_or, drop, set, length-drop}
use lib.Seq.{get_or-drop}
use Rattle.automaton.proofs.Padded.{moved_more, moved_all}
use Rattle.automaton.proofs.rows.front.Goals as goal

pub loop-i-init : goal.loop-i-init
loop-i-init c = (search rules, refl)

pub loop-i-preserved : goal.loop-i-preserved
loop-i-preserved c =
    let l = c.loop-i in
    let rows = c.args.rows.now in
    let at = c.args.at in
    let x : List ℕ = drop at rows in
    let n : length x ≡ 1024 - at = length-drop at rows ∙ ap (λ (k : ℕ). k - at) l.invariant.0 in
    let word : get_or rows (at + l.i) 0 ≡ get_or x l.i 0 = sym (get_or-drop at rows l.i 0) in (
      l.invariant.0,
      ap₂ (λ (t : List ℕ) (w : ℕ). set t l.i w) l.invariant.1 word ∙ moved_more x l.i (omega arith) (omega arith),
    )

pub returns : goal.returns
returns c =
    let l = c.loop-i in
    let rows = c.args.rows.now in
    let at = c.args.at in
    let n : l.i ≡ length (drop at rows) = omega (arith, length-drop at rows, l.invariant.0) in
    l.invariant.1 ∙ moved_all (drop at rows) l.i n
