-- How words hold a syntax tree: a node is one word, its number is the word's index, and its
-- children have smaller numbers. An item's set stands in the four words before it. Assumes nothing:
-- these are definitions.
use Rattle.std.specs.Prelude.{Bool, true, false, cond, ◌||◌, List, [], ◌∷◌, ◌++◌, ℕ, zero, suc, ◌+◌, ◌-◌, ◌*◌, ◌/◌, ◌%◌, ◌^◌, eqb, ltb, get_or, take, drop}
use Rattle.atoms.specs.Number.{cap}
use Rattle.meaning.specs.Tree.{Tree, empty, item, assertion, then, or, repeat, Extra, at_most, unbounded}
use Rattle.meaning.specs.Rule.{Assertion, at_start, at_last_line, at_end, line_start, line_end, word_edge, no_word_edge, ByteSet}

abbrev pub Syntax : Type 0
Syntax = Tree ByteSet Assertion

-- a node's word: what it is, and three numbers
abbrev pub word : (op x y z : ℕ) → ℕ
word op x y z = op + 8 * x + 2 ^ 16 * y + 2 ^ 33 * z

abbrev pub op_of : ℕ → ℕ
op_of w = w % 8

abbrev pub x_of : ℕ → ℕ
x_of w = w / 8 % 2 ^ 13

abbrev pub y_of : ℕ → ℕ
y_of w = w / 2 ^ 16 % 2 ^ 17

abbrev pub z_of : ℕ → ℕ
z_of w = w / 2 ^ 33

-- how many copies more, as a number: `cap` stands for any number more
abbrev pub extra_of : ℕ → Extra
extra_of z = cond (eqb z cap) unbounded (at_most z)

abbrev pub number_of : Extra → ℕ
number_of (at_most j) = j
number_of unbounded = cap

-- the assertions as numbers from 0 to 6; every number above reads as 6
abbrev pub assertion_of : ℕ → Assertion
assertion_of x =
    cond (eqb x 0) at_start
    (cond (eqb x 1) at_end
    (cond (eqb x 2) at_last_line
    (cond (eqb x 3) line_start
    (cond (eqb x 4) line_end
    (cond (eqb x 5) word_edge no_word_edge)))))

abbrev pub code_of : Assertion → ℕ
code_of at_start = 0
code_of at_last_line = 2
code_of at_end = 1
code_of line_start = 3
code_of line_end = 4
code_of word_edge = 5
code_of no_word_edge = 6

-- the tree of a node's word, where `set` stands before it and t gives the trees of smaller numbers
unfoldable pub node_of : ℕ → ByteSet → (ℕ → Syntax) → Syntax
node_of w set t =
    cond (eqb (op_of w) 1) (item set)
    (cond (eqb (op_of w) 2) (assertion (assertion_of (x_of w)))
    (cond (eqb (op_of w) 3) (then (t (x_of w)) (t (y_of w)))
    (cond (eqb (op_of w) 4) (or (t (x_of w)) (t (y_of w)))
    (cond (eqb (op_of w) 5) (repeat (t (x_of w)) (y_of w) (extra_of (z_of w))) empty))))

-- the tree of node k, looking at most `deep` levels down; a child that is not smaller reads as
-- empty
unfoldable pub tree_within : (deep : ℕ) → List ℕ → ℕ → Syntax
tree_within zero a k = empty
tree_within (suc d) a k = node_of (get_or a k 0) (take 4 (drop (k - 4) a)) (λ j. cond (ltb j k) (tree_within d a j) empty)

-- the tree of node k of the words a
unfoldable pub tree_at : List ℕ → ℕ → Syntax
tree_at a k = tree_within (suc k) a k

-- the tree has an assertion
unfoldable pub asserts : Syntax → Bool
asserts empty = false
asserts (item c) = false
asserts (assertion a) = true
asserts (then x y) = asserts x || asserts y
asserts (or x y) = asserts x || asserts y
asserts (repeat x n j) = asserts x

-- how many words a tree takes, and those words, the first of them number n: children first, the
-- left before the right
unfoldable pub width : Syntax → ℕ
width empty = 1
width (item c) = 5
width (assertion a) = 1
width (then x y) = width x + width y + 1
width (or x y) = width x + width y + 1
width (repeat x n j) = width x + 1

unfoldable pub lay : ℕ → Syntax → List ℕ
lay n empty = word 0 0 0 0 ∷ []
lay n (item c) = c ++ (word 1 0 0 0 ∷ [])
lay n (assertion a) = word 2 (code_of a) 0 0 ∷ []
lay n (then x y) = (lay n x ++ lay (n + width x) y) ++ (word 3 (n + width x - 1) (n + width x + width y - 1) 0 ∷ [])
lay n (or x y) = (lay n x ++ lay (n + width x) y) ++ (word 4 (n + width x - 1) (n + width x + width y - 1) 0 ∷ [])
lay n (repeat x m j) = lay n x ++ (word 5 (n + width x - 1) m (number_of j) ∷ [])
