-- `carried::ending_in` meets its contract: the last set of the gap, or none where there is no
-- such gap.
use mathlib.Core.Path.{◌≡◌, sym, ap, ◌∙◌}
use mathlib.Core.Bool.{Bool, false, ◌&&◌, and-false}
use mathlib.Core.List.{List}
use Prim.Native.Nat.{ℕ, ◌≤◌, ◌<◌}
use native.Mathlib.Omega.{arith}
use borrow.Author.Tests.{lt-ltb, le-ltb}
use Rattle.sets.specs.Set.{has, set_of, empty_set, intersection_of}
use Rattle.sets.proofs.Laws.{set_of-ext, has-set_of}
use Rattle.table.specs.Layout.{last_at, row_has}
use Rattle.table.specs.Gaps.{last_gaps}
use Rattle.table.specs.Automaton.{automaton}
use Rattle.carried.proofs.RowSets.{swapped}
use Rattle.carried.proofs.ending_in.Goals as goal

-- the last set of a gap
last_is : (t : List ℕ) (gap : ℕ) → gap < last_gaps → set_of (row_has t (last_at gap)) ≡ set_of ((automaton t).ending gap)
unfolding automaton
last_is t gap h = ap (λ (b : Bool). set_of (λ q. b && row_has t (last_at gap) q)) (sym (lt-ltb gap last_gaps h))

-- no gap, no set
none_is : (t : List ℕ) (gap : ℕ) (set : List ℕ) → last_gaps ≤ gap → empty_set ≡ intersection_of set (set_of ((automaton t).ending gap))
unfolding empty_set intersection_of automaton
none_is t gap set h =
    set_of-ext (λ q. false) (λ q. has set q && has (set_of ((automaton t).ending gap)) q)
    (λ q l. sym (ap (λ (b : Bool). has set q && b) (has-set_of ((automaton t).ending gap) q l
    ∙ ap (λ (b : Bool). b && row_has t (last_at gap) q) (le-ltb gap last_gaps h)) ∙ and-false (has set q)))

pub met_row-requires : goal.met_row-requires
met_row-requires c =
    omega (arith, c.requires, c.if-gap-lt-LAST_GAPS.true)

pub returns-then-gap-lt-LAST_GAPS : goal.returns-then-gap-lt-LAST_GAPS
returns-then-gap-lt-LAST_GAPS c =
    let a = c.args in
    c.met_row.ensures ∙ swapped (set_of (row_has a.words.now (last_at a.gap))) a.set
    ∙ ap (intersection_of a.set) (last_is a.words.now a.gap c.if-gap-lt-LAST_GAPS.true)

pub returns : goal.returns
returns c =
    let a = c.args in
    c.empty.ensures ∙ none_is a.words.now a.gap a.set c.if-gap-lt-LAST_GAPS.false
