-- `second::builder::resting_row` meets its contract. The loop's invariant: no entry before e is at
-- rest.
use native.Mathlib.Omega.{arith}
use mathlib.Core.Path.{◌≡◌, sym, ap, ◌∙◌}
use Prim.Native.Nat.{ℕ}
use Rattle.second.specs.Entries.{first_of}
use Rattle.second.specs.Invariants.{rests}
use Rattle.second.proofs.Searching.{first-none, first-none-more, first_found}
use Rattle.second.proofs.Gathering.{resting-some, resting-none}
use Rattle.second.proofs.builder.resting_row.Goals as goal

pub loop-e-init : goal.loop-e-init
loop-e-init c =
    first-none (rests c.args.second.now c.args.side)

pub at_rest-requires : goal.at_rest-requires
at_rest-requires c = (omega arith, omega arith)

pub returns-then-at_rest : goal.returns-then-at_rest
returns-then-at_rest c =
    resting-some c.args.second.now c.args.count c.args.side c.loop-e.e (omega arith) (first_found (rests c.args.second.now c.args.side) c.loop-e.e c.args.count (omega arith) c.loop-e.invariant (sym c.at_rest.ensures ∙ c.if-at_rest.true))

pub loop-e-preserved : goal.loop-e-preserved
loop-e-preserved c =
    first-none-more (rests c.args.second.now c.args.side) c.loop-e.e c.loop-e.invariant (sym c.at_rest.ensures ∙ c.if-at_rest.false)

pub returns : goal.returns
returns c =
    let done : c.loop-e.e ≡ c.args.count = omega arith in
    resting-none c.args.second.now c.args.count c.args.side (ap (λ (n : ℕ). first_of n (rests c.args.second.now c.args.side)) (sym done) ∙ c.loop-e.invariant ∙ done)
