-- `rows::add` meets its contract: the row that is read, with s, is put c.
use mathlib.Core.Path.{ap, ◌∙◌}
use mathlib.Core.List.{List}
use Prim.Native.Nat.{ℕ, ◌*◌}
use lib.Seq.{sets}
use Rattle.sets.specs.Set.{union_of}
use Rattle.automaton.specs.Parts.{four_words}
use Rattle.automaton.specs.Invariants.{added_to}
use Rattle.automaton.proofs.rows.add.Goals as goal

pub returns : goal.returns
unfolding added_to
returns c =
    let c-put = c.put in
    let c-union = c.union in
    let c-row = c.row-old in
    let a = c.args in
    c-put.ensures
    ∙ ap (λ (l : List ℕ). sets a.rows.now (a.p * 4) (four_words l))
    (c-union.ensures ∙ ap (λ (l : List ℕ). union_of l a.s) c-row.ensures)
