-- `second::builder::place` meets its contract. The loop's invariant: no entry before e has the key.
use native.Mathlib.Omega.{arith}
use mathlib.Core.Path.{◌≡◌, sym, ap, ◌∙◌}
use Prim.Native.Nat.{ℕ}
use Rattle.second.specs.Entries.{first_of}
use Rattle.second.specs.Invariants.{has_key}
use Rattle.second.proofs.Searching.{first-none, first-none-more, first_found}
use Rattle.second.proofs.builder.place.Goals as goal

pub loop-e-init : goal.loop-e-init
loop-e-init c =
    first-none (has_key c.args.second.now c.args.k)

pub has_key-requires : goal.has_key-requires
has_key-requires c = (omega arith, omega arith)

pub returns-then-has_key : goal.returns-then-has_key
returns-then-has_key c =
    sym (first_found (has_key c.args.second.now c.args.k) c.loop-e.e c.args.count (omega arith) c.loop-e.invariant (sym c.has_key.ensures ∙ c.if-has_key.true))

pub loop-e-preserved : goal.loop-e-preserved
loop-e-preserved c =
    first-none-more (has_key c.args.second.now c.args.k) c.loop-e.e c.loop-e.invariant (sym c.has_key.ensures ∙ c.if-has_key.false)

pub returns : goal.returns
returns c =
    let done : c.loop-e.e ≡ c.args.count = omega arith in
    sym done ∙ sym c.loop-e.invariant ∙ ap (λ (n : ℕ). first_of n (has_key c.args.second.now c.args.k)) done
