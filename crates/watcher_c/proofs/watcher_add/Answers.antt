-- `watcher_c::watcher_add` meets its contract: number and place are those of the addition's answer.
use mathlib.Core.Path.{ap}
use Rattle.rules.specs.declared.Added.{Added}
use Rattle.watcher_c.proofs.watcher_add.Goals as goal

pub returns : goal.returns
returns c =
    let e = c.add-r.ensures in
    record {
      answer = ap (λ (a : Added). a.number) e.0;
      table = e.1;
      place = ap (λ (a : Added). a.place) e.0;
    }
