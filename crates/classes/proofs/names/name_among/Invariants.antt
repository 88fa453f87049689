-- `classes::names::name_among` meets its contract. The invariant: the names from the number on give
-- what all of them give.
use mathlib.Core.Path.{◌≡◌}
use lib.ListN.{drop}
use Rattle.classes.specs.Name.{names, name_among}
use Rattle.classes.proofs.names.name_among.Given as goal

abbrev pub invariant-loop-number : goal.invariant-loop-number
invariant-loop-number l =
    name_among (drop l.number names) l.caseless l.negated l.lead (drop l.at l.s) ≡ name_among names l.caseless l.negated l.lead (drop l.at l.s)
