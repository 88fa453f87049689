-- `carried::put` meets its contract: word by word.
use Rattle.steps.proofs.Carrying.{put-first, put-next, put-last}
use native.Mathlib.Omega.{arith}
use Rattle.carried.proofs.put.Goals as goal

pub loop-i-init : goal.loop-i-init
loop-i-init c = let a = c.args in put-first a.set a.keep a.start a.starts.now

pub loop-i-preserved : goal.loop-i-preserved
loop-i-preserved c = let a = c.args in put-next a.set a.keep a.start c.loop-i.i c.loop-i.invariant c.put_word.ensures

pub returns : goal.returns
returns c = let a = c.args in put-last a.set a.keep a.start c.loop-i.i (omega arith) c.loop-i.invariant
