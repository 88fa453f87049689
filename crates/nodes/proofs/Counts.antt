-- The figures of a node's child, and bounds on what is counted. Assumes nothing.
use mathlib.Core.Path.{◌≡◌, refl, sym, ap}
use mathlib.Core.Bool.{true}
use mathlib.Core.List.{List}
use Prim.Native.Nat.{ℕ, zero, suc, ◌^◌, ◌≤◌, ◌<◌}
use native.Mathlib.Omega.{arith}
use Rattle.std.specs.Prelude.{Option, Some, None}
use Rattle.meaning.specs.Tree.{Extra, empty, repeat}
use Rattle.meaning.specs.Count.{copied, capped, saturating, nullable}
use Rattle.meaning.proofs.Counted.{saturated}
use Rattle.nodes.specs.Nodes.{Syntax, tree_at}
use Rattle.nodes.specs.Node.{extra_in, number_in}
use Rattle.nodes.specs.Invariants.{child_at}
use Rattle.nodes.proofs.Trees.{child-in, child-out}

-- no count is above the limit by more than one
pub small : (t : Syntax) → saturating t ≤ 257
unfolding capped
small t = omega (arith, saturated t)

pub copied-small : (n : ℕ) (j : Option ℕ) → n < 2 ^ 17 → number_in j < 2 ^ 31 → copied n (extra_in j) ≤ 2 ^ 32
unfolding copied
copied-small n None hn hj = omega arith
copied-small n (Some j) hn hj = omega arith

-- a figure of a child, which is that of the node of its number, or of none
pub inside : {T : Type 0} (f : Syntax → T) (a : List ℕ) (k x : ℕ) → x < k → f (tree_at a x) ≡ f (child_at a k x)
inside f a k x h = sym (ap f (child-in a k x h))

pub outside : {T : Type 0} (f : Syntax → T) (a : List ℕ) (k x : ℕ) → k ≤ x → f empty ≡ f (child_at a k x)
outside f a k x h = sym (ap f (child-out a k x h))

-- a repeat could match no bytes where it may have no copy, or where its child could
pub nullable-none : (t : Syntax) (n : ℕ) (j : Extra) → n ≡ 0 → true ≡ nullable (repeat t n j)
unfolding nullable
nullable-none t n j e = rw e

pub nullable-some : (t : Syntax) (n : ℕ) (j : Extra) → (n ≡ 0 → ⊥) → nullable t ≡ nullable (repeat t n j)
unfolding nullable
nullable-some t zero j h = absurd (h refl)
nullable-some t (suc n) j h = refl
