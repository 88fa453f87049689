-- `second::builder::at_rest` meets its contract: it joins the tests in the order of `rests`.
use mathlib.Core.Path.{ap, ◌∙◌}
use mathlib.Core.Bool.{not, ◌&&◌}
use lib.Dec.{eqb}
use Rattle.sets.specs.Set.{is_empty}
use Rattle.kinds.specs.Side.{side_word}
use Rattle.second.specs.declared.Key.{Key}
use Rattle.second.specs.Invariants.{rests}
use Rattle.second.proofs.builder.at_rest.Goals as goal

pub key_at-k-requires : goal.key_at-k-requires
key_at-k-requires c =
    c.requires

pub returns : goal.returns
unfolding rests
returns c =
    let k = c.key_at-k.ensures in
    let live = c.is_empty.ensures ∙ ap (λ (j : Key). is_empty j.live) k in
    let last = c.from.ensures ∙ ap (λ (j : Key). side_word j.last) k in
    λ i. not (eqb c.args.e 0) && (live i && eqb (last i) (c.from-2.ensures i))
