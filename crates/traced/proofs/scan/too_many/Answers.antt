-- `traced::scan::too_many` meets its contract: no rule ends and none is counted, or all are.
use mathlib.Core.Path.{◌≡◌, ap₂}
use mathlib.Core.Bool.{not, ◌&&◌}
use Prim.Native.Nat.{ℕ, ◌+◌, ◌≤◌}
use native.Mathlib.Omega.{arith}
use lib.Bits.{bit_and, bit_or}
use lib.Dec.{ltb}
use Rattle.sets.specs.Set.{on}
use Rattle.sets.proofs.Laws.{count-le}
use Rattle.stream.proofs.Bounds.{dues-fit}
use Rattle.traced.proofs.Counting.{none-due}
use Rattle.traced.proofs.scan.too_many.Goals as goal

pub returns-then-late-own-eq0 : goal.returns-then-late-own-eq0
returns-then-late-own-eq0 c =
    let a = c.args in
    none-due a.late a.own a.reported (bit_or a.reported (bit_and a.late a.single)) a.space c.if-late-own-eq0.true

few : {n m : ℕ} → n ≡ m → m ≤ 64 → n ≤ 64
few e h = omega arith

pub overflow_add-result : goal.overflow_add-result
overflow_add-result c =
    let a = c.args in
    dues-fit c.due.result c.due-2.result
    (few c.due.ensures (count-le 64 (λ k. on a.late k && not (on a.reported k))))
    (few c.due-2.ensures (count-le 64 (λ k. on a.own k && not (on (bit_or a.reported (bit_and a.late a.single)) k))))

pub returns : goal.returns
returns c =
    let a = c.args in
    ap₂ (λ (x y : ℕ). ltb a.space (x + y)) c.due.ensures c.due-2.ensures
