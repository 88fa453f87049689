-- `sets::insert` meets its contract: it sets the one digit.
use borrow.Author.Rules.{rules}
use mathlib.Core.Path.{ap, ◌∙◌}
use Prim.Native.Nat.{ℕ, ◌/◌, ◌%◌}
use native.Mathlib.Omega.{arith}
use lib.Bits.{bit_or}
use lib.ListN.{get_or, set}
use Rattle.sets.proofs.Bits.{shl_one}
use Rattle.sets.proofs.Laws.{words-owned, insert-words}
use Rattle.sets.proofs.insert.Goals as goal

pub returns : goal.returns
returns c =
    let s = c.args.s in
    let b = c.args.b in
    ap (λ (x : ℕ). set s (b / 64) (bit_or (get_or s (b / 64) 0) x)) (shl_one (b % 64) (omega arith))
    ∙ insert-words s (words-owned s (search rules) (λ i. search rules)) b (omega arith)
