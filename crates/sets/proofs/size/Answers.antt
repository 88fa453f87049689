-- `sets::size` meets its contract: the set digits of four words of 64 are counted one word after
-- the other, 256 at most.
use borrow.Author.Rules.{rules}
use mathlib.Core.List.{List}
use Prim.Native.Nat.{ℕ, ◌≤◌, ◌<◌}
use native.Mathlib.Omega.{arith}
use lib.Count.{ones, ones-le}
use lib.ListN.{get_or}
use Rattle.sets.proofs.Laws.{Words, words-owned, size-words}
use Rattle.sets.proofs.size.Goals as goal

few : (s : List ℕ) → Words s → (i : ℕ) → i < 4 → ones (get_or s i 0) ≤ 64
few s w i h = ones-le 64 (get_or s i 0) (w.small i h)

pub overflow_add-result : goal.overflow_add-result
overflow_add-result c =
    let w = words-owned c.args.s (search rules) (λ i. search rules) in
    omega (arith, few c.args.s w 0 (omega arith), few c.args.s w 1 (omega arith))

pub overflow_add-result-2 : goal.overflow_add-result-2
overflow_add-result-2 c =
    let w = words-owned c.args.s (search rules) (λ i. search rules) in
    omega (arith, few c.args.s w 0 (omega arith), few c.args.s w 1 (omega arith), few c.args.s w 2 (omega arith))

pub overflow_add-result-3 : goal.overflow_add-result-3
overflow_add-result-3 c =
    let w = words-owned c.args.s (search rules) (λ i. search rules) in
    omega (arith, few c.args.s w 0 (omega arith), few c.args.s w 1 (omega arith), few c.args.s w 2 (omega arith), few c.args.s w 3 (omega arith))

pub returns : goal.returns
returns c = size-words c.args.s (words-owned c.args.s (search rules) (λ i. search rules))
