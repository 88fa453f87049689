-- `stream::scan::waiting_after` meets its contract: the last byte taken settles what waits.
use native.Mathlib.Omega.{arith}
use Rattle.table.specs.Automaton.{automaton}
use Rattle.stream.proofs.Answers.{left-none, left-some}
use Rattle.stream.proofs.scan.waiting_after.Goals as goal

pub returns-then-n-eq0 : goal.returns-then-n-eq0
returns-then-n-eq0 c =
    let c-start = c in
    let c-if1 = c.if-n-eq0 in
    let a = c-start.args in
    left-none (automaton a.words.now) a.s a.block.now a.before a.n c-if1.true

pub overflow_sub-last : goal.overflow_sub-last
overflow_sub-last c =
    let c-if1 = c.if-n-eq0 in
    omega (arith, c-if1.false)

pub side_at-side-requires : goal.side_at-side-requires
side_at-side-requires c =
    let c-start = c in
    omega (arith, c-start.requires.1)

pub overflow_add-s : goal.overflow_add-s
overflow_add-s c =
    let c-start = c in
    record { fits = omega (arith, c-start.requires.1, c-start.requires.2) }

pub bounds-block-last : goal.bounds-block-last
bounds-block-last c =
    let c-start = c in
    let c-if1 = c.if-n-eq0 in
    omega (arith, c-start.requires.1, c-if1.false)

pub left_waiting-requires : goal.left_waiting-requires
left_waiting-requires c =
    let c-start = c in
    c-start.requires.0

pub returns : goal.returns
returns c =
    let sided = c in
    let c-start = sided.before.before.before.before in
    let c-left-waiting = c.left_waiting in
    let c-if1 = sided.if-n-eq0 in
    let c-side-at = sided.side_at-side in
    let a = c-start.args in
    let r = c-left-waiting.result in
    left-some (automaton a.words.now) a.s a.block.now a.before a.n c-if1.false c-side-at.result c-side-at.ensures r.held r.pending c-left-waiting.ensures.held c-left-waiting.ensures.pending
