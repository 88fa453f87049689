-- `steps::rows::meets` meets its contract: the intersection has a member.
use mathlib.Core.Path.{ap, ◌∙◌}
use mathlib.Core.Bool.{not}
use Rattle.sets.specs.Set.{is_empty}
use Rattle.steps.proofs.TableSets.{meets-test}
use Rattle.steps.proofs.rows.meets.Goals as goal

pub returns : goal.returns
returns c = ap not (c.is_empty.ensures ∙ ap is_empty c.intersection.ensures) ∙ meets-test c.args.s c.args.t
