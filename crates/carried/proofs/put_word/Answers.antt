-- `carried::put_word` meets its contract: each turn puts the start in at the lowest digit that is
-- left.
use Rattle.std.proofs.Common.{subst, sym}
use Rattle.steps.proofs.Carrying.{PutLeft, put-none, put-turn, put_all}
use Rattle.carried.proofs.put_word.Goals as goal

pub loop-k-init : goal.loop-k-init
loop-k-init c =
    let a = c.args in
    subst (λ d. PutLeft a.word a.i a.keep a.start a.starts.now d.0 a.starts.now) (sym c.into_iter-k-iterator.ensures.into_iter_gives)
    (put-none a.word a.i a.keep a.start a.starts.now c.ranges.word.fits)

pub loop-k-preserved : goal.loop-k-preserved
loop-k-preserved c =
    let a = c.args in
    put-turn a.word a.i a.keep a.start a.starts.now c.loop-k.starts c.loop-k.invariant c.in-Some.ensures.steps c.requires c.chosen.result c.chosen.ensures

pub returns : goal.returns
returns c =
    let a = c.args in
    put_all a.word a.i a.keep a.start a.starts.now c.loop-k.k-iterator.0 c.loop-k.starts c.loop-k.invariant c.in-None.ensures.steps.0
