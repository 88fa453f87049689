-- `starts::each_ok` meets its contract: each turn asks one start more.
use Rattle.std.proofs.Common.{◌≡◌, ℕ, ap, ◌∙◌, arith}
use Rattle.sets.specs.Set.{on}
use Rattle.starts.specs.Invariants.{starts_in}
use Rattle.starts.proofs.Checking.{order-start, order-more}
use Rattle.starts.proofs.each_ok.Goals as goal

pub loop-i-init : goal.loop-i-init
loop-i-init c = order-start c.args.starts.now c.args.base (on c.args.there) c.args.taken

pub loop-i-preserved : goal.loop-i-preserved
unfolding on
loop-i-preserved c =
    let a = c.args in
    order-more a.starts.now a.base (on a.there) a.taken c.loop-i.i c.loop-i.ok c.start_ok-ok.result c.loop-i.invariant c.start_ok-ok.ensures

pub returns : goal.returns
returns c =
    let a = c.args in
    let whole : c.loop-i.i ≡ 64 = omega arith in
    c.loop-i.invariant ∙ ap (λ (n : ℕ). starts_in a.starts.now a.base n (on a.there) a.taken) whole
