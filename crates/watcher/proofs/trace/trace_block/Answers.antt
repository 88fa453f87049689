-- `watcher::trace::trace_block` meets its contract: the bytes passed are taken, and every scan of
-- the rest is accepted and takes one.
use native.Mathlib.Omega.{arith}
use Rattle.watcher.specs.Invariants.{traces}
use Rattle.watcher.proofs.Watching.{begins, whole, next-takes, next-half, trace-law, trace-step, trace-ok}
use Rattle.watcher.proofs.trace.trace_block.Goals as goal

pub loop-from-init : goal.loop-from-init
loop-from-init c = (begins traces _ _ _, c.requires.2)

pub unwrap-scanned-requires : goal.unwrap-scanned-requires
unwrap-scanned-requires c =
    let l = c.loop-from in
    trace-ok c.args.words.now c.args.block.now c.args.traced l.traced l.from l.ids l.offsets l.starts l.relatives c.requires.0 c.requires.1 l.invariant.0 l.invariant.1 _ c.scan.ensures.answer

pub overflow_add-from : goal.overflow_add-from
overflow_add-from c =
    let l = c.loop-from in
    let scanned = trace-step c.args.words.now c.args.block.now c.args.traced l.traced l.from l.ids l.offsets l.starts l.relatives c.requires.0 c.requires.1 l.invariant.0 l.invariant.1 _ (rw c.unwrap-scanned.ensures at c.scan.ensures.answer) in
    omega (arith, (next-takes traces trace-law _ _ _ _ _ c.requires.0 c.requires.1 l.invariant.0 _ _ scanned c.loop-from-test.true).1, c.requires.1)

pub loop-from-smaller : goal.loop-from-smaller
loop-from-smaller c =
    let l = c.loop-from in
    let scanned = trace-step c.args.words.now c.args.block.now c.args.traced l.traced l.from l.ids l.offsets l.starts l.relatives c.requires.0 c.requires.1 l.invariant.0 l.invariant.1 _ (rw c.unwrap-scanned.ensures at c.scan.ensures.answer) in
    omega (arith, next-takes traces trace-law _ _ _ _ _ c.requires.0 c.requires.1 l.invariant.0 _ _ scanned c.loop-from-test.true)

pub loop-from-preserved : goal.loop-from-preserved
loop-from-preserved c =
    let l = c.loop-from in
    let scanned = trace-step c.args.words.now c.args.block.now c.args.traced l.traced l.from l.ids l.offsets l.starts l.relatives c.requires.0 c.requires.1 l.invariant.0 l.invariant.1 _ (rw c.unwrap-scanned.ensures at c.scan.ensures.answer) in
    (next-half traces trace-law _ _ _ _ _ c.requires.0 c.requires.1 l.invariant.0 _ _ scanned, ((omega arith, omega arith), (omega arith, omega arith)))

pub returns : goal.returns
returns c = whole traces _ _ _ _ _ c.loop-from.invariant.0 c.loop-from-test.false
