-- `kinds::not_of_kind` meets its contract: the complement of a set given by its members.
use mathlib.Core.Path.{ap, ◌∙◌}
use Rattle.sets.specs.Set.{complement_of}
use Rattle.sets.proofs.Laws.{complement-set_of}
use Rattle.kinds.specs.Kind.{is_kind}
use Rattle.kinds.proofs.not_of_kind.Goals as goal

pub returns : goal.returns
returns c = c.complement.ensures ∙ ap complement_of c.of_kind.ensures ∙ complement-set_of (is_kind c.args.k)
