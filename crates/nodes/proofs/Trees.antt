-- Trees in words. A tidy tree that is laid out from word n on is read back by `tree_at` from its
-- last word: by induction on the tree, the words in front of a node's own word being those of its
-- children. And the tree of any node, in any words, by its children. Assumes nothing.
use mathlib.Core.Path.{◌≡◌, refl, sym, ap, fun_ext, ◌∙◌}
use mathlib.Core.Bool.{Bool, true, false, cond}
use mathlib.Core.List.{List, [], ◌∷◌, ◌++◌, append_assoc}
use Prim.Native.Nat.{ℕ, zero, suc, ◌+◌, ◌-◌, ◌*◌, ◌/◌, ◌^◌, ◌≤◌, ◌<◌}
use native.Mathlib.Omega.{arith}
use native.Mathlib.Numerals.{towards_suc}
use borrow.Author.Tests.{lt-ltb, le-ltb, ltb-true}
use lib.Dec.{eqb, ltb}
use lib.ListN.{length, get_or, take, drop, set, length-append}
use lib.Seq.{sets, sets-eq, drop_at, take_at, drop-drop, length-take-le}
use Rattle.atoms.specs.Number.{cap}
use Rattle.atoms.proofs.Suffixes.{first}
use Rattle.meaning.specs.Tree.{empty, item, assertion, then, or, repeat, Extra, at_most, unbounded}
use Rattle.meaning.specs.Rule.{Assertion, at_start, at_last_line, at_end, line_start, line_end, word_edge, no_word_edge, ByteSet}
use Rattle.nodes.specs.Nodes.{Syntax, word, op_of, x_of, y_of, z_of, extra_of, number_of, code_of, node_of, tree_within, tree_at, width, lay}
use Rattle.nodes.specs.Invariants.{Tidy, child_at}
use Rattle.nodes.proofs.Base.{sets-append}

-- ---- the fields of a word

module _ (op x y z : ℕ) (ho : op < 8) (hx : x < 2 ^ 13) (hy : y < 2 ^ 17) where
  op-word : op_of (word op x y z) ≡ op
  op-word = omega arith

  x-word : x_of (word op x y z) ≡ x
  x-word =
      let q : word op x y z / 8 ≡ x + 2 ^ 13 * y + 2 ^ 30 * z = omega arith in
      rw q (omega arith)

  y-word : y_of (word op x y z) ≡ y
  y-word =
      let q : word op x y z / 2 ^ 16 ≡ y + 2 ^ 17 * z = omega arith in
      rw q (omega arith)

  z_word : z_of (word op x y z) ≡ z
  z_word = omega arith

-- a number of copies as it stands in a word
pub number-extra : (e : ℕ) → number_of (extra_of e) ≡ e
number-extra e = go (eqb e cap) refl
  where
    go : (b : Bool) → eqb e cap ≡ b → number_of (cond b unbounded (at_most e)) ≡ e
    go true h = sym (borrow.Author.Tests.eqb-true e cap h)
    go false h = refl

pub extra-number : (e : ℕ) → extra_of (number_of (extra_of e)) ≡ extra_of e
extra-number e = ap extra_of (number-extra e)

-- ---- how many words

pub width-pos : (t : Syntax) → 1 ≤ width t
unfolding width
width-pos empty = omega arith
width-pos (item c) = omega arith
width-pos (assertion a) = omega arith
width-pos (then x y) = omega arith
width-pos (or x y) = omega arith
width-pos (repeat x n j) = omega arith

pub lay-length : (t : Syntax) (n : ℕ) → Tidy t → length (lay n t) ≡ width t
unfolding width lay Tidy
lay-length empty n d = refl
lay-length (item c) n d = length-append c _ ∙ rw d.four
lay-length (assertion a) n d = refl
lay-length (then x y) n d =
    length-append (lay n x ++ lay (n + width x) y) _ ∙ rw (length-append (lay n x), lay-length x n d.0, lay-length y (n + width x) d.1)
lay-length (or x y) n d =
    length-append (lay n x ++ lay (n + width x) y) _ ∙ rw (length-append (lay n x), lay-length x n d.0, lay-length y (n + width x) d.1)
lay-length (repeat x m j) n d = length-append (lay n x) _ ∙ rw (lay-length x n d.0)

pub both-length : (x y : Syntax) (n : ℕ) → Tidy x → Tidy y → length (lay n x ++ lay (n + width x) y) ≡ width x + width y
both-length x y n d e = length-append (lay n x) (lay (n + width x) y) ∙ rw (lay-length x n d, lay-length y (n + width x) e)

-- ---- reading a tree back

-- the words a have the list l from n on, and then r
abbrev Stands : List ℕ → ℕ → List ℕ → List ℕ → Type 0
Stands a n l r = drop n a ≡ l ++ r

behind : (a : List ℕ) (n k : ℕ) (x y r : List ℕ) → Stands a n (x ++ y) r → length x ≡ k → Stands a (n + k) y r
behind a n k x y r h e = sym (drop-drop k n a) ∙ rw (h, append_assoc) (drop_at x (y ++ r) k e)

ahead : (a : List ℕ) (n : ℕ) (x y r : List ℕ) → Stands a n (x ++ y) r → Stands a n x (y ++ r)
ahead a n x y r h = h ∙ append_assoc x y r

word_at : (a : List ℕ) (k w : ℕ) (r : List ℕ) → Stands a k (w ∷ []) r → get_or a k 0 ≡ w
word_at a k w r h = sym (first a k) ∙ rw h

-- a child that stands below is read
child-read : (a : List ℕ) (d j k : ℕ) (t : Syntax) → j < k → tree_within d a j ≡ t → cond (ltb j k) (tree_within d a j) empty ≡ t
child-read a d j k t l e = rw (lt-ltb j k l) e

abbrev node_at : (d : ℕ) → List ℕ → ℕ → ℕ → Syntax
node_at d a k w = node_of w (take 4 (drop (k - 4) a)) (λ j. cond (ltb j k) (tree_within d a j) empty)

step : (d : ℕ) (a : List ℕ) (k k' w : ℕ) (r : List ℕ) → k' ≡ k → Stands a k (w ∷ []) r → tree_within (suc d) a k' ≡ node_at d a k w
unfolding tree_within
step d a k k' w r e h = rw (e, word_at a k w r h)

module _ (d : ℕ) (a : List ℕ) (k : ℕ) where
  read-empty : node_at d a k (word 0 0 0 0) ≡ empty
  unfolding node_of
  read-empty = refl

  read-assertion : (x : Assertion) → node_at d a k (word 2 (code_of x) 0 0) ≡ assertion x
  unfolding node_of
  read-assertion at_start = refl
  read-assertion at_last_line = refl
  read-assertion at_end = refl
  read-assertion line_start = refl
  read-assertion line_end = refl
  read-assertion word_edge = refl
  read-assertion no_word_edge = refl

  read-item : (c : ByteSet) (r : List ℕ) → 4 ≤ k → length c ≡ 4 → Stands a (k - 4) c r → node_at d a k (word 1 0 0 0) ≡ item c
  unfolding node_of
  read-item c r h e l = rw l (ap item (take_at c r 4 e))

  module _ (x y : ℕ) (hx : x < 2 ^ 13) (hy : y < 2 ^ 13) (lx : x < k) (ly : y < k) (t u : Syntax) (ex : tree_within d a x ≡ t) (ey : tree_within d a y ≡ u) where
    read-then : node_at d a k (word 3 x y 0) ≡ then t u
    unfolding node_of
    read-then = rw (op-word 3 x y 0 (omega arith) hx (omega arith), x-word 3 x y 0 (omega arith) hx (omega arith), y-word 3 x y 0 (omega arith) hx (omega arith), lt-ltb x k lx, lt-ltb y k ly, ex, ey)

    read-or : node_at d a k (word 4 x y 0) ≡ or t u
    unfolding node_of
    read-or = rw (op-word 4 x y 0 (omega arith) hx (omega arith), x-word 4 x y 0 (omega arith) hx (omega arith), y-word 4 x y 0 (omega arith) hx (omega arith), lt-ltb x k lx, lt-ltb y k ly, ex, ey)

  read-repeat : (x m : ℕ) (j : Extra) → x < 2 ^ 13 → m < cap → extra_of (number_of j) ≡ j → x < k → (t : Syntax) → tree_within d a x ≡ t → node_at d a k (word 5 x m (number_of j)) ≡ repeat t m j
  unfolding node_of
  read-repeat x m j hx hm hj lx t ex =
      let z : ℕ = number_of j in
      rw (op-word 5 x m z (omega arith) hx (omega arith), x-word 5 x m z (omega arith) hx (omega arith), y-word 5 x m z (omega arith) hx (omega arith), z_word 5 x m z (omega arith) hx (omega arith), lt-ltb x k lx, ex, hj)

-- a node with two children, whose words stand in front of its own
module _ (f : ℕ) (a : List ℕ) (n : ℕ) (r : List ℕ) (x y : Syntax) (op : ℕ) (dx : Tidy x) (dy : Tidy y) (small : n + (width x + width y) < 2 ^ 13) where
  read-two : (k : ℕ) (node : Syntax)
      → k ≡ n + (width x + width y)
      → Stands a n ((lay n x ++ lay (n + width x) y) ++ (word op (n + width x - 1) (n + width x + width y - 1) 0 ∷ [])) r
      → (Stands a n (lay n x) (lay (n + width x) y ++ ((word op (n + width x - 1) (n + width x + width y - 1) 0 ∷ []) ++ r)) → tree_within f a (n + width x - 1) ≡ x)
      → (Stands a (n + width x) (lay (n + width x) y) ((word op (n + width x - 1) (n + width x + width y - 1) 0 ∷ []) ++ r) → tree_within f a (n + width x + width y - 1) ≡ y)
      → ((lx : n + width x - 1 < k) (ly : n + width x + width y - 1 < k) → tree_within f a (n + width x - 1) ≡ x → tree_within f a (n + width x + width y - 1) ≡ y → node_at f a k (word op (n + width x - 1) (n + width x + width y - 1) 0) ≡ node)
      → tree_within (suc f) a k ≡ node
  read-two k node e s ix iy is =
      let p = width-pos x in
      let q = width-pos y in
      let w : ℕ = word op (n + width x - 1) (n + width x + width y - 1) 0 in
      let both = ahead a n (lay n x ++ lay (n + width x) y) (w ∷ []) r s in
      step f a k k w r refl (rw e (behind a n (width x + width y) (lay n x ++ lay (n + width x) y) (w ∷ []) r s (both-length x y n dx dy)))
      ∙ is (omega arith) (omega arith)
      (ix (ahead a n (lay n x) (lay (n + width x) y) ((w ∷ []) ++ r) both))
      (iy (behind a n (width x) (lay n x) (lay (n + width x) y) ((w ∷ []) ++ r) both (lay-length x n dx)))

read-laid : (t : Syntax) (d : ℕ) (a : List ℕ) (n k : ℕ) (r : List ℕ) → width t ≤ d → k + 1 ≡ n + width t → n + width t ≤ 2 ^ 13 → Tidy t → Stands a n (lay n t) r → tree_within d a k ≡ t
unfolding width lay Tidy
read-laid t zero a n k r hd e h d s = absurd (omega (arith, width-pos t))
read-laid empty (suc f) a n k r hd e h d s = step f a n k _ r (omega arith) s ∙ read-empty f a n
read-laid (item c) (suc f) a n k r hd e h d s =
    let q : n + 4 ≡ k = omega arith in
    let z : k - 4 ≡ n = omega arith in
    let w : List ℕ = word 1 0 0 0 ∷ [] in
    let l : Stands a (k - 4) c (w ++ r) = rw z (ahead a n c w r s) in
    step f a (n + 4) k (word 1 0 0 0) r (omega arith) (behind a n 4 c w r s d.four) ∙ rw q (read-item f a k c (w ++ r) (omega arith) d.four l)
read-laid (assertion x) (suc f) a n k r hd e h d s = step f a n k _ r (omega arith) s ∙ read-assertion f a n x
read-laid (then x y) (suc f) a n k r hd e h d s =
    let p = width-pos x in
    let q = width-pos y in
    read-two f a n r x y 3 d.0 d.1 (omega arith) k (then x y) (omega arith) s
    (λ u. read-laid x f a n _ _ (omega arith) (omega arith) (omega arith) d.0 u)
    (λ u. read-laid y f a (n + width x) _ _ (omega arith) (omega arith) (omega arith) d.1 u)
    (λ lx ly u v. read-then f a k _ _ (omega arith) (omega arith) lx ly x y u v)
read-laid (or x y) (suc f) a n k r hd e h d s =
    let p = width-pos x in
    let q = width-pos y in
    read-two f a n r x y 4 d.0 d.1 (omega arith) k (or x y) (omega arith) s
    (λ u. read-laid x f a n _ _ (omega arith) (omega arith) (omega arith) d.0 u)
    (λ u. read-laid y f a (n + width x) _ _ (omega arith) (omega arith) (omega arith) d.1 u)
    (λ lx ly u v. read-or f a k _ _ (omega arith) (omega arith) lx ly x y u v)
read-laid (repeat x m j) (suc f) a n k r hd e h d s =
    let w : ℕ = word 5 (n + width x - 1) m (number_of j) in
    let p = width-pos x in
    step f a (n + width x) k w r (omega arith) (behind a n (width x) (lay n x) (w ∷ []) r s (lay-length x n d.0))
    ∙ read-repeat f a (n + width x) (n + width x - 1) m j (omega arith) d.1 d.2 (omega arith) x
    (read-laid x f a n (n + width x - 1) ((w ∷ []) ++ r) (omega arith) (omega arith) (omega arith) d.0 (ahead a n (lay n x) (w ∷ []) r s))

-- a tidy tree written from n on is the tree of its last word
pub laid-tree : (t : Syntax) (a b : List ℕ) (n k : ℕ) → k + 1 ≡ n + width t → n + width t ≤ 2 ^ 13 → n + width t ≤ length a → Tidy t → b ≡ sets a n (lay n t) → tree_at b k ≡ t
unfolding tree_at
laid-tree t a b n k e h l d s =
    let i : n + length (lay n t) ≤ length a = rw (lay-length t n d) l in
    let p : length (take n a) ≡ n = length-take-le n a (omega arith) in
    let q : drop n b ≡ lay n t ++ drop (n + length (lay n t)) a =
    rw (s, sets-eq (lay n t) a n i, append_assoc) (drop_at (take n a) (lay n t ++ drop (n + length (lay n t)) a) n p) in
    read-laid t (suc k) b n k (drop (n + length (lay n t)) a) (omega arith) e h d q

-- a tidy tree in front of any words
pub front-tree : (t : Syntax) (r : List ℕ) → width t ≤ 2 ^ 13 → Tidy t → tree_at (lay 0 t ++ r) (width t - 1) ≡ t
unfolding tree_at
front-tree t r h d =
    let p = width-pos t in
    read-laid t (suc (width t - 1)) (lay 0 t ++ r) 0 (width t - 1) r (omega arith) (omega arith) (omega arith) d refl

-- ---- the tree of any node by its children

pick-below : (t u : ℕ → Syntax) (k : ℕ) → ((j : ℕ) → j < k → t j ≡ u j) → (j : ℕ) → cond (ltb j k) (t j) empty ≡ cond (ltb j k) (u j) empty
pick-below t u k ih j = go (ltb j k) refl
  where
    go : (v : Bool) → ltb j k ≡ v → cond v (t j) empty ≡ cond v (u j) empty
    go true e = ih j (ltb-true j k e)
    go false e = refl

-- a look deep enough sees the whole tree
enough : (f g : ℕ) (a : List ℕ) (k : ℕ) → k < f → k < g → tree_within f a k ≡ tree_within g a k
unfolding tree_within
enough zero g a k hf hg = absurd (omega arith)
enough (suc f) zero a k hf hg = absurd (omega arith)
enough (suc f) (suc g) a k hf hg =
    ap (node_of (get_or a k 0) (take 4 (drop (k - 4) a)))
    (fun_ext (pick-below (tree_within f a) (tree_within g a) k (λ j l. enough f g a j (omega arith) (omega arith))))

pub tree-node : (a : List ℕ) (k : ℕ) → tree_at a k ≡ node_of (get_or a k 0) (take 4 (drop (k - 4) a)) (child_at a k)
unfolding tree_at tree_within child_at
tree-node a k =
    ap (node_of (get_or a k 0) (take 4 (drop (k - 4) a)))
    (fun_ext (pick-below (tree_within k a) (tree_at a) k (λ j l. enough k (suc j) a j l (omega arith))))

pub child-in : (a : List ℕ) (k x : ℕ) → x < k → child_at a k x ≡ tree_at a x
unfolding child_at
child-in a k x h = rw (lt-ltb x k h)

pub child-out : (a : List ℕ) (k x : ℕ) → k ≤ x → child_at a k x ≡ empty
unfolding child_at
child-out a k x h = rw (le-ltb x k h)

-- the stores of an item's set and word
pub item-sets : (c a : List ℕ) (n w : ℕ) → length c ≡ 4
    → set (set (set (set (set a n (get_or c 0 0)) (n + 1) (get_or c 1 0)) (n + 2) (get_or c 2 0)) (n + 3) (get_or c 3 0)) (n + 4) w ≡ sets a n (c ++ (w ∷ []))
item-sets [] a n w h = absurd (omega arith)
item-sets (p ∷ []) a n w h = absurd (omega arith)
item-sets (p ∷ q ∷ []) a n w h = absurd (omega arith)
item-sets (p ∷ q ∷ r ∷ []) a n w h = absurd (omega arith)
item-sets (p ∷ q ∷ r ∷ s ∷ []) a n w h = simp towards_suc
item-sets (p ∷ q ∷ r ∷ s ∷ t ∷ l) a n w h = absurd (omega arith)

-- the stores of two trees, one after the other, and of the node above them
pub both-laid : (x y : Syntax) (a b c : List ℕ) (n m k w : ℕ) → b ≡ sets a n (lay n x) → c ≡ sets b m (lay m y) → m ≡ n + width x → k ≡ m + width y → Tidy x → Tidy y
    → set c k w ≡ sets a n ((lay n x ++ lay (n + width x) y) ++ (w ∷ []))
both-laid x y a b c n m k w eb ec em ek dx dy =
    let p : sets a n (lay n x ++ lay (n + width x) y) ≡ c =
    sets-append (lay n x) (lay (n + width x) y) a n ∙ rw (lay-length x n dx, ← em, ← eb, ec) in
    let q : n + length (lay n x ++ lay (n + width x) y) ≡ k = omega (arith, both-length x y n dx dy) in
    sym (sets-append (lay n x ++ lay (n + width x) y) (w ∷ []) a n ∙ rw (p, q))

-- of one tree and of the node above it
pub one-laid : (x : Syntax) (a b : List ℕ) (n k w : ℕ) → b ≡ sets a n (lay n x) → k ≡ n + width x → Tidy x → set b k w ≡ sets a n (lay n x ++ (w ∷ []))
one-laid x a b n k w eb ek dx = sym (sets-append (lay n x) (w ∷ []) a n ∙ rw (lay-length x n dx, ← ek, ← eb))
