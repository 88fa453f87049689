-- `starts::start_ok` meets its contract: the two ways through it.
use mathlib.Core.Path.{sym, ap}
use mathlib.Core.Bool.{Bool, cond}
use lib.Dec.{eqb, ltb}
use Rattle.starts.proofs.start_ok.Goals as goal

pub returns-then-there : goal.returns-then-there
returns-then-there c =
    let a = c.args in
    sym (ap (λ (b : Bool). cond b (ltb a.start a.taken) (eqb a.start 0)) c.if-there.true)

pub returns-else-there : goal.returns-else-there
returns-else-there c =
    let a = c.args in
    sym (ap (λ (b : Bool). cond b (ltb a.start a.taken) (eqb a.start 0)) c.if-there.false)
