-- The tree of a node by what its word says, and its form; and a word that is written says what was
-- written. Assumes nothing.
use mathlib.Core.Path.{◌≡◌, refl, sym, ap, ◌∙◌}
use mathlib.Core.Bool.{Bool, true, false, cond}
use mathlib.Core.List.{List}
use Prim.Native.Nat.{ℕ, ◌+◌}
use lib.Dec.{eqb}
use lib.ListN.{get_or}
use Rattle.std.specs.Prelude.{Option, Some, None}
use Rattle.atoms.specs.Number.{cap}
use Rattle.meaning.specs.Tree.{empty, item, assertion, then, or, repeat, at_most, unbounded}
use Rattle.meaning.specs.Form.{eps, take, check, seq, alt, write, positions, repeated}
use Rattle.meaning.specs.Rule.{Assertion, at_start, at_last_line, at_end, line_start, line_end, word_edge, no_word_edge, ByteSet}
use Rattle.nodes.specs.Nodes.{Syntax, op_of, x_of, y_of, z_of, extra_of, assertion_of, node_of, tree_at}
use Rattle.nodes.specs.Node.{named, meant, extra_in, more_in, node_in, tree_of}
use Rattle.nodes.specs.Invariants.{child_at, form_at, child_form, set_at}
use Rattle.nodes.specs.declared.layout.Node.{Node}
use Rattle.nodes.specs.declared.layout.Node.TheVariants as node
use Rattle.nodes.specs.declared.layout.Assertion as rust
use Rattle.nodes.specs.declared.layout.Node.TheVariants.{Empty, Item, Then, Or, Repeat}
use Rattle.nodes.proofs.Trees.{tree-node}

pub meant-named : (a : Assertion) → meant (named a) ≡ a
meant-named at_start = refl
meant-named at_last_line = refl
meant-named at_end = refl
meant-named line_start = refl
meant-named line_end = refl
meant-named word_edge = refl
meant-named no_word_edge = refl

extra-more : (z : ℕ) → extra_of z ≡ extra_in (more_in z)
extra-more z = go (eqb z cap)
  where
    go : (b : Bool) → cond b unbounded (at_most z) ≡ extra_in (cond b None (Some z))
    go true = refl
    go false = refl

module _ (w : ℕ) (set : ByteSet) (t : ℕ → Syntax) where
  by-tests : (p q r s u : Bool)
      → cond p (item set) (cond q (assertion (assertion_of (x_of w))) (cond r (then (t (x_of w)) (t (y_of w))) (cond s (or (t (x_of w)) (t (y_of w))) (cond u (repeat (t (x_of w)) (y_of w) (extra_of (z_of w))) empty))))
      ≡ tree_of (cond p Item (cond q (node.Assertion (named (assertion_of (x_of w)))) (cond r (Then (x_of w) (y_of w)) (cond s (Or (x_of w) (y_of w)) (cond u (Repeat (x_of w) (y_of w) (more_in (z_of w))) Empty))))) set t
  by-tests true q r s u = refl
  by-tests false true r s u = ap assertion (sym (meant-named (assertion_of (x_of w))))
  by-tests false false true s u = refl
  by-tests false false false true u = refl
  by-tests false false false false true = ap (repeat (t (x_of w)) (y_of w)) (extra-more (z_of w))
  by-tests false false false false false = refl

  said : node_of w set t ≡ tree_of (node_in w) set t
  unfolding node_of node_in
  said = by-tests (eqb (op_of w) 1) (eqb (op_of w) 2) (eqb (op_of w) 3) (eqb (op_of w) 4) (eqb (op_of w) 5)

-- node k's tree by its children, where n is the node
pub tree-is : (a : List ℕ) (k : ℕ) (n : Node) → n ≡ node_in (get_or a k 0) → tree_at a k ≡ tree_of n (set_at a k) (child_at a k)
tree-is a k n e =
    tree-node a k ∙ said (get_or a k 0) (set_at a k) (child_at a k) ∙ ap (λ (m : Node). tree_of m (set_at a k) (child_at a k)) (sym e)

-- a figure of node k's tree, where r is the node and n what it turned out to be
pub figure : {T : Type 0} (f : Syntax → T) (a : List ℕ) (k : ℕ) {r n : Node} → r ≡ node_in (get_or a k 0) → r ≡ n
    → f (tree_of n (set_at a k) (child_at a k)) ≡ f (tree_at a k)
figure f a k e h = sym (ap f (tree-is a k _ (sym h ∙ e)))

pub form-is : (a : List ℕ) (k : ℕ) {r n : Node} → r ≡ node_in (get_or a k 0) → r ≡ n → form_at a k ≡ write (tree_of n (set_at a k) (child_at a k))
form-is a k e h = sym (figure write a k e h)

-- the form by what the node is, and the positions of its children
module _ (a : List ℕ) (k : ℕ) {r : Node} (said : r ≡ node_in (get_or a k 0)) where
  pub empty-is : r ≡ Empty → form_at a k ≡ eps
  unfolding write
  empty-is h = form-is a k said h

  pub item-is : r ≡ Item → form_at a k ≡ take (set_at a k)
  unfolding write
  item-is h = form-is a k said h

  pub item-size : r ≡ Item → positions (form_at a k) ≡ 1
  unfolding positions
  item-size h = ap positions (item-is h)

  module _ {x y : ℕ} where
    pub then-is : r ≡ Then x y → form_at a k ≡ seq (child_form a k x) (child_form a k y)
    unfolding write
    then-is h = form-is a k said h

    pub then-size : r ≡ Then x y → positions (form_at a k) ≡ positions (child_form a k x) + positions (child_form a k y)
    unfolding positions
    then-size h = ap positions (then-is h)

    pub or-is : r ≡ Or x y → form_at a k ≡ alt (child_form a k x) (child_form a k y)
    unfolding write
    or-is h = form-is a k said h

    pub or-size : r ≡ Or x y → positions (form_at a k) ≡ positions (child_form a k x) + positions (child_form a k y)
    unfolding positions
    or-size h = ap positions (or-is h)

pub assertion-is : (a : List ℕ) (k : ℕ) {r : Node} → r ≡ node_in (get_or a k 0) → {x : rust.Assertion} → r ≡ node.Assertion x → form_at a k ≡ check (meant x)
unfolding write
assertion-is a k said h = form-is a k said h

pub repeat-is : (a : List ℕ) (k : ℕ) {r : Node} → r ≡ node_in (get_or a k 0) → {x n : ℕ} {j : Option ℕ} → r ≡ Repeat x n j
    → form_at a k ≡ repeated (child_form a k x) n (extra_in j)
unfolding write
repeat-is a k said h = form-is a k said h
