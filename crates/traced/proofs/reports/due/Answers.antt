-- `traced::reports::due` meets its contract: it counts the set digits, 64 at most.
use native.Mathlib.Omega.{arith}
use Rattle.sets.specs.Set.{on}
use Rattle.sets.proofs.Laws.{count-le}
use mathlib.Core.Bool.{not, ◌&&◌}
use Rattle.stream.proofs.Runs.{due-ones}
use Rattle.traced.proofs.reports.due.Goals as goal

pub overflow_cast-result : goal.overflow_cast-result
overflow_cast-result c =
    let c-start = c in
    omega (arith, due-ones c-start.args.ending c-start.args.reported (omega arith) (omega arith), count-le 64 (λ a. on c-start.args.ending a && not (on c-start.args.reported a)))

pub returns : goal.returns
returns c =
    let c-start = c in
    due-ones c-start.args.ending c-start.args.reported (omega arith) (omega arith)
