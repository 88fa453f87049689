-- The word that names a side: by cases on the side.
use Rattle.kinds.specs.Side.{side_word}
use Rattle.std.proofs.Common.{sym, ap}
use Rattle.kinds.proofs.U64FromSide.from.Goals as goal

pub returns-in-Other : goal.returns-in-Other
unfolding side_word
returns-in-Other c = sym (ap side_word c.in-Other.is)

pub returns-in-Word : goal.returns-in-Word
unfolding side_word
returns-in-Word c = sym (ap side_word c.in-Word.is)

pub returns-in-Newline : goal.returns-in-Newline
unfolding side_word
returns-in-Newline c = sym (ap side_word c.in-Newline.is)
