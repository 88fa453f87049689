-- `watcher_c::watcher_add_within` meets its contract: number and place are those of the addition's
-- answer, with windows.
use mathlib.Core.Path.{ap, ◌∙◌}
use Rattle.pattern.specs.declared.bounds.Bounds.{Bounds}
use Rattle.pattern.specs.Windows.{windows_of}
use Rattle.rules.specs.Add.{Addition, addition_in, add_answer, add_words}
use Rattle.rules.specs.declared.Added.{Added}
use Rattle.watcher_c.proofs.watcher_add_within.Goals as goal

pub returns : goal.returns
returns c =
    let e = c.add_within-r.ensures in
    let b = c.bounds_of-bounds.ensures in
    let s = let i = c.before.before.before.before.before.before in i.before in
    let a = s.args in
    let given : Bounds → Addition = λ (b : Bounds). addition_in a.id a.flags (windows_of b) a.pattern.now in
    let same = ap (λ (b : Bounds). add_answer a.table.now (given b)) b in record {
      answer = ap (λ (a : Added). a.number) (e.0 ∙ same);
      table = e.1 ∙ ap (λ (b : Bounds). add_words a.table.now (given b)) b;
      place = ap (λ (a : Added). a.place) (e.0 ∙ same);
    }
