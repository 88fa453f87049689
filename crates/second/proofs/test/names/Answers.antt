-- `second::test::names` meets its contract. The loop's invariant: what the entries before e name is
-- joined.
use native.Mathlib.Omega.{arith}
use mathlib.Core.Path.{◌≡◌, ap, ap₂, ◌∙◌}
use mathlib.Core.Bool.{true, ◌&&◌}
use lib.Bits.{bit_or}
use Rattle.second.specs.Invariants.{named_by_all, joined}
use Rattle.second.proofs.Passing.{named_none, named_more}
use Rattle.second.proofs.test.names.Goals as goal

pub loop-e-init : goal.loop-e-init
loop-e-init c =
    (λ i. record { set = c.empty.ensures i; rules = 0; counted = true }) ∙ named_none c.args.second.now

pub named_by-more-requires : goal.named_by-more-requires
named_by-more-requires c = (omega arith, omega arith)

pub loop-e-preserved : goal.loop-e-preserved
loop-e-preserved c =
    let l = c.loop-e in
    let c₀ = c.args.second.now in
    let set = c.union.ensures in
    (λ i. record { set = set i; rules = bit_or l.all.rules c.named_by-more.result.rules; counted = l.all.counted && c.named_by-more.result.counted })
    ∙ ap₂ joined l.invariant c.named_by-more.ensures ∙ named_more c₀ l.e

pub returns : goal.returns
returns c =
    let done : c.loop-e.e ≡ c.args.entries = omega arith in
    c.loop-e.invariant ∙ ap (named_by_all c.args.second.now) done
