-- `core` meets its contract: by what the row says.
use Rattle.marks.proofs.Passes.{core-is}
use Rattle.marks.proofs.moves.core.Goals as goal

pub returns-in-Item : goal.returns-in-Item
returns-in-Item c =
    rw (c.least.ensures, c.word.ensures) (core-is c.args.parts.now c.args.j c.read.ensures c.in-Item.is c.args.g c.args.marks.now c.args.ends.now)

pub returns-in-Then : goal.returns-in-Then
returns-in-Then c =
    rw (c.passed.ensures, c.has.ensures, c.word-in-Then.ensures, c.word-in-Then-2.ensures)
    (core-is c.args.parts.now c.args.j c.read.ensures c.in-Then.is c.args.g c.args.marks.now c.args.ends.now)

pub returns-in-Or : goal.returns-in-Or
returns-in-Or c =
    rw (c.least-in-Or.ensures, c.word-in-Or.ensures, c.word-in-Or-2.ensures)
    (core-is c.args.parts.now c.args.j c.read.ensures c.in-Or.is c.args.g c.args.marks.now c.args.ends.now)
