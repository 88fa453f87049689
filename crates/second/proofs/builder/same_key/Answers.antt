-- `second::builder::same_key` meets its contract: it joins the tests in the order of `same_key`.
use mathlib.Core.Bool.{◌&&◌}
use lib.Dec.{eqb}
use Rattle.second.specs.Entries.{same_key}
use Rattle.second.proofs.builder.same_key.Goals as goal

pub returns : goal.returns
unfolding same_key
returns c =
    λ i. c.same_words.ensures i && (c.same_words-2.ensures i && (eqb c.args.k.pending c.args.j.pending && eqb (c.from.ensures i) (c.from-2.ensures i)))
