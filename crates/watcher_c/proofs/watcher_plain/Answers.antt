-- `watcher_c::watcher_plain` meets its contract: the answer is the matcher's, with these windows.
use mathlib.Core.Path.{subst}
use Rattle.refusals.specs.Refusal.{number_of}
use Rattle.pattern.specs.declared.bounds.Bounds.{Bounds}
use Rattle.plain.specs.Run.{lent}
use Rattle.plain.specs.Answer.{question, Matches}
use Rattle.watcher_c.specs.Interface.{matched}
use Rattle.watcher_c.proofs.watcher_plain.Goals as goal

pub returns-in-Ok : goal.returns-in-Ok
returns-in-Ok c =
    let a = c.args in
    subst (λ (v : Bounds). Matches (question a.pattern.now a.flags v a.log.now) (lent a.offsets.now a.starts.now) (lent c.matches.new.offsets c.matches.new.starts) (matched 0 0 c.in-Ok.count))
    c.bounds_of-bounds.ensures c.in-Ok.ensures

pub returns-in-Err : goal.returns-in-Err
returns-in-Err c =
    let a = c.args in
    rw c.number.ensures (
    subst (λ (v : Bounds). Matches (question a.pattern.now a.flags v a.log.now) (lent a.offsets.now a.starts.now) (lent c.matches.new.offsets c.matches.new.starts) (matched (number_of c.in-Err.fault.refusal) c.in-Err.fault.place 0))
    c.bounds_of-bounds.ensures c.in-Err.ensures
    )
