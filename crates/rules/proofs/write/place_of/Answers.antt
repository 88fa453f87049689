-- `rules::write::place_of` meets its contract: the ids below this one are counted.
use mathlib.Core.Path.{◌≡◌, ◌∙◌}
use native.Mathlib.Omega.{arith}
use lib.Dec.{ltb}
use Rattle.sets.specs.Set.{count}
use Rattle.sets.proofs.Bits.{count-le}
use Rattle.rules.specs.Invariants.{smaller}
use Rattle.rules.proofs.Blocks.{count-part}
use Rattle.rules.proofs.write.place_of.Goals as goal

pub returns : goal.returns
returns c =
    let a = c.args in
    let e : c.below.result ≡ count a.rules (smaller a.words.now a.id) =
    c.below.ensures ∙ count-part (λ x. ltb x a.id) a.words.now 128 a.rules (omega arith) in
    (omega (arith, count-le a.rules (smaller a.words.now a.id)), e)
