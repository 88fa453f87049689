-- `watcher::watch::watch_input` is safe and ends: a block is not empty and is taken whole, so the
-- stream grows towards its limit.
use mathlib.Core.Path.{sym, ap, subst}
use native.Mathlib.Omega.{arith}
use lib.ListN.{length}
use Rattle.stream.specs.Calls.{Opened}
use Rattle.watcher.specs.Invariants.{pairs, Running}
use Rattle.watcher.proofs.Watching.{asked, grown, pair-law, opened-runs, pair-closes}
use Rattle.watcher.proofs.watch.watch_input.Goals as goal

pub loop-stdin-init : goal.loop-stdin-init
loop-stdin-init c =
    let runs = subst (Running pairs _) (sym (ap (λ (o : Opened). o.stream) c.open-opened.ensures)) (opened-runs _ c.requires.0 c.requires.1) in
    record { runs = runs; room = c.requires.2 }

pub watch_block-requires : goal.watch_block-requires
watch_block-requires c =
    let l = c.loop-stdin in
    let r = c.read_block-size in
    (l.invariant.runs, asked pairs pair-law _ r.new.block _ r.result (length l.block) l.invariant.runs r.ensures.within r.ensures.upper_bound, l.invariant.room)

pub loop-stdin-smaller : goal.loop-stdin-smaller
loop-stdin-smaller c =
    let l = c.loop-stdin in
    let r = c.read_block-size in
    let e = c.in_ok-stream.ensures in
    omega (arith, grown pairs pair-law _ r.new.block _ _ r.result (length l.block) l.invariant.runs r.ensures.within r.ensures.upper_bound e)

pub loop-stdin-preserved : goal.loop-stdin-preserved
loop-stdin-preserved c =
    let l = c.loop-stdin in
    let r = c.read_block-size in
    let e = c.in_ok-stream.ensures in
    record { runs = (grown pairs pair-law _ r.new.block _ _ r.result (length l.block) l.invariant.runs r.ensures.within r.ensures.upper_bound e).runs; room = (omega arith, omega arith) }

pub unwrap-closed-requires : goal.unwrap-closed-requires
unwrap-closed-requires c = let l = c.loop-stdin in pair-closes _ l.stream l.ids l.offsets l.invariant.runs l.invariant.room _ c.close.ensures.answer
