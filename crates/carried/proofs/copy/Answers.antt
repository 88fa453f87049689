-- `carried::copy` meets its contract: word by word.
use Rattle.carried.proofs.InPlace.{copy-first, copy-next, copy-last}
use native.Mathlib.Omega.{arith}
use Rattle.carried.proofs.copy.Goals as goal

pub loop-i-init : goal.loop-i-init
loop-i-init c = let a = c.args in copy-first a.set a.from.now a.to.now

pub loop-i-preserved : goal.loop-i-preserved
loop-i-preserved c = let a = c.args in copy-next a.set a.from.now c.loop-i.i c.loop-i.invariant c.copy_word.ensures

pub returns : goal.returns
returns c = let a = c.args in copy-last a.set a.from.now c.loop-i.i (omega arith) c.loop-i.invariant
