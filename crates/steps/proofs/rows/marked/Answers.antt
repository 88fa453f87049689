-- `steps::rows::marked` meets its contract: the digits below the number of rules.
use mathlib.Core.Path.{ap, ◌∙◌}
use Prim.Native.Nat.{ℕ, ◌-◌}
use native.Mathlib.Omega.{arith}
use lib.Bits.{bit_and}
use lib.ListN.{get_or}
use lib.Pow.{pow_pos}
use Rattle.sets.proofs.Bits.{shl_one}
use Rattle.table.specs.Layout.{rules_of}
use Rattle.steps.proofs.TableSets.{marked-below, marked_all}
use Rattle.steps.proofs.rows.marked.Goals as goal

pub overflow_sub-result : goal.overflow_sub-result
overflow_sub-result c =
    let t = c.args.words.now in
    omega (arith, shl_one (rules_of t) (omega arith), pow_pos (rules_of t))

pub returns-then-rules-lt-MAX_RULES : goal.returns-then-rules-lt-MAX_RULES
returns-then-rules-lt-MAX_RULES c =
    let a = c.args in
    let t = a.words.now in
    let marks = get_or t a.at 0 in
    ap (λ (x : ℕ). bit_and marks (x - 1)) (shl_one (rules_of t) (omega arith))
    ∙ marked-below t marks (c.type_inv.words a.at).fits c.if-rules-lt-MAX_RULES.true

pub returns : goal.returns
returns c =
    let a = c.args in
    let t = a.words.now in
    marked_all t (get_or t a.at 0) (c.type_inv.words a.at).fits
    c.if-rules-lt-MAX_RULES.false
