-- `stream::scan::passed` meets its contract.
use mathlib.Core.Path.{sym, ap}
use mathlib.Core.Bool.{Bool, cond}
use borrow.Author.Tests.{lt-ltb, le-ltb}
use Rattle.stream.proofs.scan.passed.Goals as goal

pub returns-then-from-to : goal.returns-then-from-to
returns-then-from-to c =
    let c-start = c in
    let c-if1 = c.if-from-to in
    let a = c-start.args in
    ap (λ (b : Bool). cond b a.live a.before) (sym (lt-ltb a.from a.to c-if1.true))

pub returns-else-from-to : goal.returns-else-from-to
returns-else-from-to c =
    let c-start = c in
    let c-if1 = c.if-from-to in
    let a = c-start.args in
    ap (λ (b : Bool). cond b a.live a.before) (sym (le-ltb a.from a.to c-if1.false))
