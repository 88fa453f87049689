-- `second::builder::has_key` meets its contract: it joins the tests in the order of `has_key`.
use mathlib.Core.Path.{ap, ◌∙◌}
use mathlib.Core.Bool.{Bool, not, ◌&&◌}
use lib.Dec.{eqb}
use Rattle.second.specs.declared.Key.{Key}
use Rattle.second.specs.Entries.{same_key}
use Rattle.second.specs.Invariants.{has_key}
use Rattle.second.proofs.builder.has_key.Goals as goal

pub key_at-requires : goal.key_at-requires
key_at-requires c =
    c.requires

pub returns : goal.returns
unfolding has_key
returns c =
    ap (λ (b : Bool). not (eqb c.args.e 0) && b) (c.same_key.ensures ∙ ap (λ (j : Key). same_key j c.args.k) c.key_at.ensures)
