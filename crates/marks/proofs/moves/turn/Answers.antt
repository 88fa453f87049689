-- `turn` meets its contract: by what the row says.
use mathlib.Core.Path.{refl}
use Rattle.marks.proofs.Passes.{turned}
use Rattle.marks.proofs.moves.turn.Goals as goal

pub returns-in-Item : goal.returns-in-Item
returns-in-Item c =
    turned c.args.parts.now c.args.j c.read.ensures c.in-Item.is c.args.a.now c.args.g c.args.byte c.args.cores.now c.args.ends.now c.args.comes.now c.args.marks.now c.entered-come.ensures
    (rw (c.put.ensures, c.only.ensures, c.takes.ensures) refl) refl

pub returns-in-Then : goal.returns-in-Then
returns-in-Then c =
    turned c.args.parts.now c.args.j c.read.ensures c.in-Then.is c.args.a.now c.args.g c.args.byte c.args.cores.now c.args.ends.now c.args.comes.now c.args.marks.now c.entered-come.ensures
    refl (rw (c.put-in-Then-2.ensures, c.put-in-Then.ensures, c.passed.ensures, c.has.ensures, c.word.ensures) refl)

pub returns-in-Or : goal.returns-in-Or
returns-in-Or c =
    turned c.args.parts.now c.args.j c.read.ensures c.in-Or.is c.args.a.now c.args.g c.args.byte c.args.cores.now c.args.ends.now c.args.comes.now c.args.marks.now c.entered-come.ensures
    refl (rw (c.put-in-Or-2.ensures, c.put-in-Or.ensures) refl)
