-- `carried::follow_word` meets its contract: each turn carries the start of the lowest position that
-- is left along its row.
use Rattle.std.proofs.Common.{subst, sym}
use Rattle.steps.proofs.Carrying.{FollowLeft, follow-none, follow-turn, follow-all}
use Rattle.carried.proofs.follow_word.Goals as goal

pub loop-k-init : goal.loop-k-init
loop-k-init c =
    let a = c.args in
    subst (λ d. FollowLeft a.next a.from.now a.rows a.words.now a.word a.i a.starts.now d.0 a.starts.now) (sym c.into_iter-k-iterator.ensures.into_iter_gives)
    (follow-none a.next a.from.now a.rows a.words.now a.word a.i a.starts.now c.ranges.word.fits)

pub loop-k-preserved : goal.loop-k-preserved
loop-k-preserved c =
    let a = c.args in
    let l = c.loop-k in
    follow-turn a.next a.from.now a.rows a.words.now a.word a.i a.starts.now l.starts l.invariant c.in-Some.ensures.steps c.requires.1
    c.met_row-to.result _ c.met_row-to.ensures c.put.ensures

pub returns : goal.returns
returns c =
    let a = c.args in
    let l = c.loop-k in
    follow-all a.next a.from.now a.rows a.words.now a.word a.i a.starts.now l.k-iterator.0 l.starts l.invariant c.in-None.ensures.steps.0
