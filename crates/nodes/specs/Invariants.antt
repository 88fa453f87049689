-- What the private functions promise one another, and which trees words can hold. No public
-- contract cites it.
use Rattle.std.specs.Prelude.{◌≡◌, Bool, cond, List, ℕ, ◌-◌, ◌<◌, ltb, take, drop}
use Rattle.sets.proofs.Laws.{Words}
use Rattle.atoms.specs.Number.{cap}
use Rattle.meaning.specs.Tree.{empty, item, assertion, then, or, repeat, Extra, at_most, unbounded}
use Rattle.meaning.specs.Form.{Form, write}
use Rattle.meaning.specs.Rule.{Assertion, ByteSet}
use Rattle.nodes.specs.Nodes.{Syntax, tree_at, extra_of, number_of}

-- the tree of x as a child of node k: a child that is not smaller reads as empty
unfoldable pub child_at : List ℕ → ℕ → ℕ → Syntax
child_at a k x = cond (ltb x k) (tree_at a x) empty

-- the written-out form of node k, and of its child x
abbrev pub Written : Type 0
Written = Form ByteSet Assertion

abbrev pub form_at : List ℕ → ℕ → Written
form_at a k = write (tree_at a k)

abbrev pub child_form : List ℕ → ℕ → ℕ → Written
child_form a k x = write (child_at a k x)

-- the byte set that stands before node k
abbrev pub set_at : List ℕ → ℕ → ByteSet
set_at a k = take 4 (drop (k - 4) a)

-- how many copies more: any number, or up to j
abbrev pub extra : Bool → ℕ → Extra
extra endless j = cond endless unbounded (at_most j)

-- a tree that words can hold: its sets are four 64-bit words, its repeats have numbers that a node
-- has room for
unfoldable pub Tidy : Syntax → Type 0
Tidy empty = Unit {0}
Tidy (item c) = Words c
Tidy (assertion a) = Unit {0}
Tidy (then x y) = Tidy x × Tidy y
Tidy (or x y) = Tidy x × Tidy y
Tidy (repeat x n j) = Tidy x × (n < cap) × (extra_of (number_of j) ≡ j)
