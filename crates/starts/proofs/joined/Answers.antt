-- `starts::joined` meets its contract: each turn joins one start more.
use Rattle.std.proofs.Common.{◌≡◌, ℕ, subst, arith}
use Rattle.starts.specs.Invariants.{NoneIn}
use Rattle.starts.proofs.Checking.{none-start, none_more}
use Rattle.starts.proofs.joined.Goals as goal

pub loop-i-init : goal.loop-i-init
loop-i-init c = none-start c.args.starts.now c.args.base 0

pub loop-i-preserved : goal.loop-i-preserved
loop-i-preserved c = none_more c.args.starts.now c.args.base c.loop-i.i c.loop-i.all c.loop-i.invariant

pub returns : goal.returns
returns c =
    let whole : c.loop-i.i ≡ 64 = omega arith in
    subst (λ (n : ℕ). NoneIn c.args.starts.now c.args.base n c.loop-i.all) whole c.loop-i.invariant
