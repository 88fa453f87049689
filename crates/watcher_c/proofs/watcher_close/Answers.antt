-- `watcher_c::watcher_close` meets its contract: too few words, a refused closing, an accepted one,
-- whose state is stored.
use mathlib.Core.Path.{refl, ap₂}
use native.Mathlib.Omega.{arith}
use Rattle.refusals.proofs.Laws.{number-above}
use Rattle.stream.specs.Calls.{lists}
use Rattle.watcher_c.specs.Interface.{close_call, close_given}
use Rattle.states.proofs.Answers.{call-short, call-accepted, call-refused}
use Rattle.watcher_c.proofs.watcher_close.Goals as goal

pub returns-then-state-lt-WORDS : goal.returns-then-state-lt-WORDS
returns-then-state-lt-WORDS c =
    let a = c.args in
    call-short (close_call a.table.now (lists a.ids.now a.offsets.now)) a.state.now c.if-state-lt-WORDS.true

pub returns-in-Ok : goal.returns-in-Ok
returns-in-Ok c =
    let a = c.args in
    let e = c.in-Ok.ensures in
    call-accepted (close_call a.table.now (lists a.ids.now a.offsets.now)) a.state.now
    c.if-state-lt-WORDS.false c.load-s.ensures (ap₂ close_given e.answer e.lists) refl c.store.ensures

pub returns-in-Err : goal.returns-in-Err
returns-in-Err c =
    let a = c.args in
    let e = c.in-Err.ensures in
    let r = c.in-Err.refusal in
    rw (c.number.ensures)
    (call-refused (close_call a.table.now (lists a.ids.now a.offsets.now)) a.state.now
    c.if-state-lt-WORDS.false c.load-s.ensures (ap₂ close_given e.answer e.lists) (λ z. omega (arith, number-above r, z)))
