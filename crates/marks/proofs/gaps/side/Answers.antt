-- `side` meets its contract: by the kinds of bytes beside a gap.
use mathlib.Core.Path.{sym, ap, ◌∙◌}
use Rattle.kinds.specs.declared.Side.{Side}
use Rattle.meaning.specs.Gap.{byte}
use Rattle.marks.specs.Parts.{side_code}
use Rattle.marks.proofs.gaps.side.Goals as goal

pub returns-in-Newline : goal.returns-in-Newline
returns-in-Newline c = ap (λ (s : Side). side_code (byte s)) (sym c.in-Newline.is ∙ c.side_of.ensures)

pub returns-in-Word : goal.returns-in-Word
returns-in-Word c = ap (λ (s : Side). side_code (byte s)) (sym c.in-Word.is ∙ c.side_of.ensures)

pub returns-in-Other : goal.returns-in-Other
returns-in-Other c = ap (λ (s : Side). side_code (byte s)) (sym c.in-Other.is ∙ c.side_of.ensures)
