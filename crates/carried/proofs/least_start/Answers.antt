-- `carried::least_start` meets its contract: word by word.
use Rattle.std.proofs.Common.{sym}
use Rattle.steps.proofs.Carrying.{least-first, least-next, least-last}
use native.Mathlib.Omega.{arith}
use Rattle.carried.proofs.least_start.Goals as goal

pub loop-i-init : goal.loop-i-init
loop-i-init c = let a = c.args in sym (least-first a.words.now a.owner a.starts.now a.set a.least)

pub loop-i-preserved : goal.loop-i-preserved
loop-i-preserved c = let a = c.args in least-next a.words.now a.owner a.starts.now a.set a.least c.loop-i.i c.loop-i.invariant c.least_word-least.ensures

pub returns : goal.returns
returns c = let a = c.args in least-last a.words.now a.owner a.starts.now a.set a.least c.loop-i.i (omega arith) c.loop-i.invariant
