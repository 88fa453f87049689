-- `watcher::trace::trace_input` is safe and ends: a block is not empty and is taken whole, so the
-- stream grows towards its limit.
use mathlib.Core.Path.{sym, ap, subst}
use native.Mathlib.Omega.{arith}
use lib.ListN.{length}
use Rattle.traced.specs.Calls.{Opened}
use Rattle.watcher.specs.Invariants.{traces, Running}
use Rattle.watcher.proofs.Watching.{asked, grown, trace-law, opened-traces, trace-closes}
use Rattle.watcher.proofs.trace.trace_input.Goals as goal

pub loop-stdin-init : goal.loop-stdin-init
loop-stdin-init c =
    let runs = subst (Running traces _) (sym (ap (λ (o : Opened). o.traced) c.open-opened.ensures)) (opened-traces _ c.requires.0) in
    record { runs = runs; room = c.requires.1 }

pub trace_block-requires : goal.trace_block-requires
trace_block-requires c =
    let l = c.loop-stdin in
    let r = c.read_block-size in
    (l.invariant.runs, asked traces trace-law _ r.new.block _ r.result (length l.block) l.invariant.runs r.ensures.within r.ensures.upper_bound, (l.invariant.room, (omega arith, omega arith)))

pub loop-stdin-smaller : goal.loop-stdin-smaller
loop-stdin-smaller c =
    let l = c.loop-stdin in
    let r = c.read_block-size in
    let e = c.in_ok-traced.ensures in
    omega (arith, grown traces trace-law _ r.new.block _ _ r.result (length l.block) l.invariant.runs r.ensures.within r.ensures.upper_bound e)

pub loop-stdin-preserved : goal.loop-stdin-preserved
loop-stdin-preserved c =
    let l = c.loop-stdin in
    let r = c.read_block-size in
    let e = c.in_ok-traced.ensures in
    record { runs = (grown traces trace-law _ r.new.block _ _ r.result (length l.block) l.invariant.runs r.ensures.within r.ensures.upper_bound e).runs; room = (omega arith, omega arith) }

pub unwrap-closed-requires : goal.unwrap-closed-requires
unwrap-closed-requires c =
    let l = c.loop-stdin in
    trace-closes _ l.traced l.ids l.offsets l.starts l.relatives l.invariant.runs (l.invariant.room, (omega arith, omega arith)) _ c.close.ensures.answer
