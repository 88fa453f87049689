-- `carried::copy_word` meets its contract: each turn copies the start at the lowest digit that is
-- left.
use Rattle.std.proofs.Common.{subst, sym}
use Rattle.carried.proofs.InPlace.{CopyLeft, copy-none, copy-turn, copy-all}
use Rattle.carried.proofs.copy_word.Goals as goal

pub loop-k-init : goal.loop-k-init
loop-k-init c =
    let a = c.args in
    subst (λ d. CopyLeft a.word a.i a.from.now a.to.now d.0 a.to.now) (sym c.into_iter-k-iterator.ensures.into_iter_gives)
    (copy-none a.word a.i a.from.now a.to.now c.ranges.word.fits)

pub loop-k-preserved : goal.loop-k-preserved
loop-k-preserved c =
    let a = c.args in
    copy-turn a.word a.i a.from.now a.to.now c.loop-k.to c.loop-k.invariant c.in-Some.ensures.steps c.requires

pub returns : goal.returns
returns c =
    let a = c.args in
    copy-all a.word a.i a.from.now a.to.now c.loop-k.k-iterator.0 c.loop-k.to c.loop-k.invariant c.in-None.ensures.steps.0
