-- `lines::output::put_refused` meets its contract: what is placed is the line's text.
use mathlib.Core.Path.{ap, ◌∙◌}
use Rattle.lines.specs.Output.{placed}
use Rattle.lines.proofs.Placing.{text-bytes, text-within}
use Rattle.lines.proofs.output.put_refused.Goals as goal

pub place_text-requires : goal.place_text-requires
place_text-requires c = text-within _ _ c.refused_text.ensures

pub returns : goal.returns
returns c = c.place_text.ensures ∙ ap (placed _) (text-bytes _ _ c.refused_text.ensures)
