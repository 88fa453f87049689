-- `takes` meets its contract: it reads one digit of the set.
use mathlib.Core.Path.{◌≡◌, sym, ap, ◌∙◌}
use mathlib.Core.List.{List}
use Prim.Native.Nat.{ℕ, ◌+◌, ◌-◌, ◌/◌, ◌%◌, ◌^◌, ◌<◌}
use native.Mathlib.Omega.{arith}
use lib.Bits.{bit_and, and_mask}
use lib.Dec.{eqb}
use lib.ListN.{get_or, drop}
use lib.Seq.{get_or-take, get_or-drop}
use Rattle.sets.specs.Set.{on, has}
use Rattle.nodes.specs.Invariants.{set_at}
use Rattle.marks.proofs.moves.takes.Goals as goal

-- a byte in the set that stands before node k
takes_is : (a : List ℕ) (k from x w : ℕ) → x < 256 → from ≡ k - 4 → w ≡ get_or a (from + x / 64) 0 → eqb (bit_and (w / 2 ^ (x % 64)) 1) 1 ≡ has (set_at a k) x
unfolding has on
takes_is a k from x w lt e f =
    let inside : x / 64 < 4 = omega arith in
    let read : get_or (set_at a k) (x / 64) 0 ≡ w = get_or-take 4 (drop (k - 4) a) (x / 64) 0 inside ∙ rw get_or-drop (rw (← e) (sym f)) in
    ap (λ (v : ℕ). eqb v 1) (and_mask (w / 2 ^ (x % 64)) 1) ∙ ap (λ (v : ℕ). eqb (v / 2 ^ (x % 64) % 2) 1) (sym read)

pub returns : goal.returns
returns c = takes_is c.args.a.now c.args.k c.saturating_sub.result c.args.byte c.word.result (omega arith) c.saturating_sub.ensures c.word.ensures
