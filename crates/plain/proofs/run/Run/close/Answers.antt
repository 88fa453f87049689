-- `close` meets its contract: what the end settles is what the definitions say, and there is room
-- for it.
use native.Mathlib.Omega.{arith}
use Rattle.plain.proofs.Runs.{taking, close-slots, close-is}
use Rattle.plain.proofs.run.Run.close.Goals as goal

pub both-requires : goal.both-requires
both-requires c =
    (close-slots c.requires.0 c.requires.1 c.inside.ensures c.inside-2.ensures c.inside-second.ensures (c.take_byte-ends.ensures (taking c.requires.0)), omega (arith, c.requires.0.within, c.requires.0.short))

pub returns : goal.returns
returns c =
    close-is c.requires.0 c.requires.1 c.inside.ensures c.inside-2.ensures c.inside-second.ensures (c.take_byte-ends.ensures (taking c.requires.0)) c.both.ensures
