-- `rules::write::put_words` meets its contract. The loop's invariant: the words before `i` are
-- written.
use mathlib.Core.Path.{◌≡◌, ap}
use Prim.Native.Nat.{ℕ, ◌+◌, ◌-◌}
use native.Mathlib.Omega.{arith}
use lib.ListN.{get_or}
use Rattle.table.proofs.Over.{written_none, written-up, written_all}
use Rattle.rules.proofs.write.put_words.Goals as goal

pub loop-i-init : goal.loop-i-init
loop-i-init c = (omega arith, written_none (omega arith))

pub loop-i-preserved : goal.loop-i-preserved
loop-i-preserved c =
    let at = c.args.at in
    let i = c.loop-i.i in
    let e : i ≡ at + i - at = omega arith in
    (omega arith, written-up c.loop-i.invariant.1 (omega arith) (omega arith) (omega arith) (ap (λ (k : ℕ). get_or c.args.src.now k 0) e))

pub returns : goal.returns
returns c =
    let e : c.args.at + c.loop-i.i ≡ c.args.at + c.args.n = omega arith in written_all c.loop-i.invariant.1 e
