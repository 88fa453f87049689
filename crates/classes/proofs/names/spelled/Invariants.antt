-- `classes::names::spelled` meets its contract. The invariant: the bytes of the text before k were
-- seen at the place.
use mathlib.Core.Path.{◌≡◌}
use mathlib.Core.Bool.{cond}
use lib.ListN.{length, drop}
use Rattle.classes.specs.Name.{begins}
use Rattle.classes.specs.Invariants.{unpadded}
use Rattle.classes.proofs.Spellings.{spell}
use Rattle.classes.proofs.names.spelled.Given as goal

abbrev pub invariant-loop-k : goal.invariant-loop-k
invariant-loop-k l =
    spell l.s l.fn.text l.at l.k ≡ cond (begins (unpadded l.fn.text) (drop l.at l.s)) (length (unpadded l.fn.text)) 0
