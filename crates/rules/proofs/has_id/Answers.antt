-- `rules::has_id` meets its contract: the ids of the rules are searched.
use mathlib.Core.Path.{ap, ◌∙◌}
use Prim.Native.Nat.{ℕ}
use native.Mathlib.Omega.{arith}
use lib.Dec.{eqb}
use Rattle.sets.specs.Set.{any}
use Rattle.table.specs.Layout.{id_word}
use Rattle.rules.specs.Add.{has_id}
use Rattle.rules.proofs.Blocks.{any-part}
use Rattle.rules.proofs.has_id.Goals as goal

pub returns : goal.returns
unfolding has_id
returns c =
    let a = c.args in
    c.contains.ensures.value ∙ any-part (λ x. eqb x a.id) a.words.now 128 a.rules (omega arith)
    ∙ ap (λ (n : ℕ). any n (λ k. eqb (id_word a.words.now k) a.id)) c.requires.2
