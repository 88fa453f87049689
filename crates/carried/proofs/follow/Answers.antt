-- `carried::follow` meets its contract: word by word.
use Rattle.steps.proofs.Carrying.{follow-first, follow-next, follow-last}
use native.Mathlib.Omega.{arith}
use Rattle.carried.proofs.follow.Goals as goal

pub loop-i-init : goal.loop-i-init
loop-i-init c = let a = c.args in follow-first a.next a.from.now a.rows a.words.now a.live a.starts.now

pub loop-i-preserved : goal.loop-i-preserved
loop-i-preserved c = let a = c.args in follow-next a.next a.from.now a.rows a.words.now a.live c.loop-i.i c.loop-i.invariant c.follow_word.ensures

pub returns : goal.returns
returns c = let a = c.args in follow-last a.next a.from.now a.rows a.words.now a.live c.loop-i.i (omega arith) c.loop-i.invariant
