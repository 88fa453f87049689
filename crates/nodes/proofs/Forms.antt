-- A node by its word: what kind of node the word names, its tree and its written-out form by its
-- children; the numbers of the assertions; and the form of a repeat by its first copy. For the
-- crates that walk the nodes. Assumes nothing.
use mathlib.Core.Path.{◌≡◌, refl, sym, ap, ◌∙◌}
use mathlib.Core.Bool.{Bool, true, false, true≢false, ◌&&◌, ◌||◌}
use mathlib.Core.List.{List}
use Prim.Native.Nat.{ℕ, zero, suc, ◌+◌, ◌-◌, ◌≤◌, ◌<◌}
use native.Mathlib.Omega.{arith}
use native.Mathlib.Decide.{ℕ_discrete}
use borrow.Author.Tests.{eqb-true, eqb-false, ne_eqb}
use lib.Dec.{eqb}
use lib.ListN.{get_or}
use Rattle.meaning.specs.Tree.{empty, item, assertion, then, or, repeat, at_most, unbounded}
use Rattle.meaning.specs.Form.{eps, take, check, seq, alt, plus, opt, write, positions, copies, optionals, repeated}
use Rattle.meaning.specs.Rule.{no_word_edge}
use Rattle.nodes.specs.Nodes.{op_of, x_of, y_of, z_of, extra_of, assertion_of, code_of, node_of, tree_at}
use Rattle.nodes.specs.Invariants.{child_at, Written, form_at, child_form, set_at, extra}
use Rattle.nodes.proofs.Trees.{tree-node, child-in, child-out}

-- An assertion's number is the one that names it; those above the last stand for the last.
pub code_below : (x : ℕ) → x < 6 → x ≡ code_of (assertion_of x)
code_below zero h = refl
code_below (suc zero) h = refl
code_below (suc (suc zero)) h = refl
code_below (suc (suc (suc zero))) h = refl
code_below (suc (suc (suc (suc zero)))) h = refl
code_below (suc (suc (suc (suc (suc zero))))) h = refl
code_below (suc (suc (suc (suc (suc (suc x)))))) h = absurd (omega arith)

pub last-assertion : (x : ℕ) → 6 ≤ x → assertion_of x ≡ no_word_edge
last-assertion x h =
    let off : (k : ℕ) → k < 6 → eqb x k ≡ false = λ k l. ne_eqb x k (λ e. omega arith) in
    rw (off 0 (omega arith), off 1 (omega arith), off 2 (omega arith), off 3 (omega arith), off 4 (omega arith), off 5 (omega arith))

pub code-above : (x : ℕ) → 6 ≤ x → 6 ≡ code_of (assertion_of x)
code-above x h = sym (ap code_of (last-assertion x h))

-- a node that is one of two, and not the first
is-second : (op : ℕ) → (eqb op 3 || eqb op 4) ≡ true → (op ≡ 3 → ⊥) → op ≡ 4
is-second op e n = eqb-true op 4 (ap (λ (b : Bool). b || eqb op 4) (sym (ne_eqb op 3 n)) ∙ e)

neither : (op : ℕ) → (eqb op 3 || eqb op 4) ≡ false → (eqb op 3 ≡ false) × (eqb op 4 ≡ false)
neither op e = go (eqb op 3) (eqb op 4) e
  where
    go : (a b : Bool) → (a || b) ≡ false → (a ≡ false) × (b ≡ false)
    go true b h = absurd (true≢false h)
    go false b h = (refl, h)

-- what the node's word w says
module _ (a : List ℕ) (k w : ℕ) (e : w ≡ get_or a k 0) where
  is-item : op_of w ≡ 1 → tree_at a k ≡ item (set_at a k)
  unfolding node_of
  is-item h = rw (tree-node a k, ← e, h)

  is-assertion : op_of w ≡ 2 → tree_at a k ≡ assertion (assertion_of (x_of w))
  unfolding node_of
  is-assertion h = rw (tree-node a k, ← e, h)

  is-then : op_of w ≡ 3 → tree_at a k ≡ then (child_at a k (x_of w)) (child_at a k (y_of w))
  unfolding node_of
  is-then h = rw (tree-node a k, ← e, h)

  is-or : op_of w ≡ 4 → tree_at a k ≡ or (child_at a k (x_of w)) (child_at a k (y_of w))
  unfolding node_of
  is-or h = rw (tree-node a k, ← e, h)

  is-repeat : op_of w ≡ 5 → tree_at a k ≡ repeat (child_at a k (x_of w)) (y_of w) (extra_of (z_of w))
  unfolding node_of
  is-repeat h = rw (tree-node a k, ← e, h)

  is-empty : (op_of w ≡ 1 → ⊥) → (op_of w ≡ 2 → ⊥) → (eqb (op_of w) 3 || eqb (op_of w) 4) ≡ false → (op_of w ≡ 5 → ⊥) → tree_at a k ≡ empty
  unfolding node_of
  is-empty h1 h2 h34 h5 =
      let n = neither (op_of w) h34 in
      rw (tree-node a k, ← e, ne_eqb _ _ h1, ne_eqb _ _ h2, n.0, n.1, ne_eqb _ _ h5)

-- ---- repeats

module _ (f : Written) where
  pub nested-none : (j : ℕ) → j ≡ 0 → optionals j f ≡ eps
  unfolding optionals
  nested-none j e = rw e

  pub nested-step : (j : ℕ) → (j ≡ 0 → ⊥) → optionals j f ≡ opt (seq f (optionals (j - 1) f))
  unfolding optionals
  nested-step j n = let e : j ≡ suc (j - 1) = omega arith in ap (λ (m : ℕ). optionals m f) e

  pub nested-positions : (j : ℕ) → (j ≡ 0 → ⊥) → positions (optionals j f) ≡ positions f + positions (optionals (j - 1) f)
  unfolding positions
  nested-positions j n = ap positions (nested-step j n)

  module _ (n : ℕ) (endless : Bool) (j : ℕ) where
    pub repeat-any : n ≡ 0 → endless ≡ true → repeated f n (extra endless j) ≡ opt (plus f)
    unfolding repeated
    repeat-any z e = rw (z, e)

    pub repeat-nested : n ≡ 0 → endless ≡ false → repeated f n (extra endless j) ≡ optionals j f
    unfolding repeated copies
    repeat-nested z e = rw (z, e)

    pub repeat_many : (endless && eqb n 1) ≡ true → repeated f n (extra endless j) ≡ plus f
    unfolding repeated copies
    repeat_many h = go endless h
      where
        go : (v : Bool) → (v && eqb n 1) ≡ true → repeated f n (extra v j) ≡ plus f
        go true e = ap (λ (m : ℕ). repeated f m unbounded) (eqb-true n 1 e)
        go false e = absurd (true≢false (sym e))

    pub repeat-step : (n ≡ 0 → ⊥) → (endless && eqb n 1) ≡ false → repeated f n (extra endless j) ≡ seq f (repeated f (n - 1) (extra endless j))
    unfolding repeated copies
    repeat-step z h = go endless h
      where
        go : (v : Bool) → (v && eqb n 1) ≡ false → repeated f n (extra v j) ≡ seq f (repeated f (n - 1) (extra v j))
        go true e =
            let d : n ≡ suc (suc (n - 2)) = omega (arith, eqb-false n 1 e) in
            let c : suc (n - 2) ≡ n - 1 = omega (arith, eqb-false n 1 e) in
            ap (λ (m : ℕ). repeated f m unbounded) d ∙ ap (λ (m : ℕ). seq f (repeated f m unbounded)) c
        go false e = let d : n ≡ suc (n - 1) = omega arith in ap (λ (m : ℕ). repeated f m (at_most j)) d

    pub repeat-positions : (n ≡ 0 → ⊥) → (endless && eqb n 1) ≡ false
        → positions (repeated f n (extra endless j)) ≡ positions f + positions (repeated f (n - 1) (extra endless j))
    unfolding positions
    repeat-positions z h = ap positions (repeat-step z h)

-- ---- nodes

pub child-is : (a : List ℕ) (k x : ℕ) → x < k → child_form a k x ≡ form_at a x
child-is a k x h = ap write (child-in a k x h)

pub child-none : (a : List ℕ) (k x : ℕ) → k ≤ x → child_form a k x ≡ eps
unfolding write
child-none a k x h = ap write (child-out a k x h)

module _ (a : List ℕ) (k w : ℕ) (e : w ≡ get_or a k 0) where
  pub form-take : op_of w ≡ 1 → form_at a k ≡ take (set_at a k)
  unfolding write
  form-take h = ap write (is-item a k w e h)

  pub form-check : op_of w ≡ 2 → form_at a k ≡ check (assertion_of (x_of w))
  unfolding write
  form-check h = ap write (is-assertion a k w e h)

  pub form-seq : op_of w ≡ 3 → form_at a k ≡ seq (child_form a k (x_of w)) (child_form a k (y_of w))
  unfolding write
  form-seq h = ap write (is-then a k w e h)

  pub form-alt : (eqb (op_of w) 3 || eqb (op_of w) 4) ≡ true → (op_of w ≡ 3 → ⊥) → form_at a k ≡ alt (child_form a k (x_of w)) (child_form a k (y_of w))
  unfolding write
  form-alt h n = ap write (is-or a k w e (is-second (op_of w) h n))

  pub form-repeated : op_of w ≡ 5 → form_at a k ≡ repeated (child_form a k (x_of w)) (y_of w) (extra_of (z_of w))
  unfolding write
  form-repeated h = ap write (is-repeat a k w e h)

  pub form-eps : (op_of w ≡ 1 → ⊥) → (op_of w ≡ 2 → ⊥) → (eqb (op_of w) 3 || eqb (op_of w) 4) ≡ false → (op_of w ≡ 5 → ⊥) → form_at a k ≡ eps
  unfolding write
  form-eps h1 h2 h34 h5 = ap write (is-empty a k w e h1 h2 h34 h5)

  pub item-positions : op_of w ≡ 1 → positions (form_at a k) ≡ 1
  unfolding positions
  item-positions h = ap positions (form-take h)

  pub pair-positions : (eqb (op_of w) 3 || eqb (op_of w) 4) ≡ true → positions (form_at a k) ≡ positions (child_form a k (x_of w)) + positions (child_form a k (y_of w))
  unfolding positions
  pair-positions h = go (ℕ_discrete (op_of w) 3)
    where
      go : Dec (op_of w ≡ 3) → positions (form_at a k) ≡ positions (child_form a k (x_of w)) + positions (child_form a k (y_of w))
      go (yes i) = ap positions (form-seq i)
      go (no n) = ap positions (form-alt h n)
