-- `watcher_c::watcher_matched_bytes` meets its contract: all three are read off the part.
use mathlib.Core.Path.{sym, ap, ◌∙◌}
use mathlib.Core.Bool.{Bool, cond}
use Rattle.matched.specs.declared.Part.{Part}
use Rattle.watcher_c.specs.Interface.{matched_source}
use Rattle.watcher_c.proofs.watcher_matched_bytes.Goals as goal

pub returns-then-r : goal.returns-then-r
unfolding matched_source
returns-then-r c =
    let e = c.matched_part-r.ensures in record {
      answer = ap (λ (b : Bool). cond b 1 0) (sym c.if-r.true ∙ ap (λ (p : Part). p.tail) e);
      place = ap (λ (p : Part). p.place) e;
      size = ap (λ (p : Part). p.size) e;
    }

pub returns-else-r : goal.returns-else-r
unfolding matched_source
returns-else-r c =
    let e = c.matched_part-r.ensures in record {
      answer = ap (λ (b : Bool). cond b 1 0) (sym c.if-r.false ∙ ap (λ (p : Part). p.tail) e);
      place = ap (λ (p : Part). p.place) e;
      size = ap (λ (p : Part). p.size) e;
    }
