-- `quiet::is_quiet` meets its contract: it asks each part.
use mathlib.Core.Path.{sym, ap, ◌∙◌}
use mathlib.Core.Bool.{Bool, not, ◌&&◌, ◌||◌}
use lib.Dec.{eqb}
use Rattle.steps.proofs.Bounds.{words-good}
use Rattle.quiet.proofs.Ending.{quietly}
use Rattle.quiet.proofs.is_quiet.Goals as goal

pub returns : goal.returns
returns c =
    let a = c.args in
    let is = ap (λ (b : Bool). not (a.some || a.waits) && (b && not (eqb a.taken 0))) c.is_empty.ensures in
    record {
      is = is;
      so = λ e. quietly a.some a.waits a.live a.taken (words-good a.live _ c.well_formed.1.1.0) (sym is ∙ e);
    }
