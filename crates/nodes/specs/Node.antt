-- What a word says as a node (Nodes), and the word that says it. Assumes nothing: these are
-- definitions.
use Rattle.std.specs.Prelude.{cond, Option, Some, None, ℕ, ◌^◌, ◌<◌, eqb}
use Rattle.atoms.specs.Number.{cap}
use Rattle.meaning.specs.Tree.{empty, item, assertion, then, or, repeat, Extra, at_most, unbounded}
use Rattle.meaning.specs.Rule.{Assertion, at_start, at_last_line, at_end, line_start, line_end, word_edge, no_word_edge, ByteSet}
use Rattle.nodes.specs.Nodes.{Syntax, word, op_of, x_of, y_of, z_of, assertion_of, code_of}
use Rattle.nodes.specs.declared.layout.Node.{Node}
use Rattle.nodes.specs.declared.layout.Node.TheVariants as node
use Rattle.nodes.specs.declared.layout.Assertion as rust
use Rattle.nodes.specs.declared.layout.Node.TheVariants.{Empty, Item, Then, Or, Repeat}
use Rattle.nodes.specs.declared.layout.Assertion.TheVariants.{AtStart, AtEnd, AtLastLine, LineStart, LineEnd, WordEdge, NoWordEdge}

-- an assertion as the code names it
abbrev pub named : Assertion → rust.Assertion
named at_start = AtStart
named at_last_line = AtLastLine
named at_end = AtEnd
named line_start = LineStart
named line_end = LineEnd
named word_edge = WordEdge
named no_word_edge = NoWordEdge

-- and as the rules do
abbrev pub meant : rust.Assertion → Assertion
meant AtStart = at_start
meant AtEnd = at_end
meant AtLastLine = at_last_line
meant LineStart = line_start
meant LineEnd = line_end
meant WordEdge = word_edge
meant NoWordEdge = no_word_edge

-- how many copies more, where `None` is any number more
abbrev pub extra_in : Option ℕ → Extra
extra_in None = unbounded
extra_in (Some j) = at_most j

abbrev pub more_in : ℕ → Option ℕ
more_in z = cond (eqb z cap) None (Some z)

-- the node of a word
unfoldable pub node_in : ℕ → Node
node_in w =
    cond (eqb (op_of w) 1) Item
    (cond (eqb (op_of w) 2) (node.Assertion (named (assertion_of (x_of w))))
    (cond (eqb (op_of w) 3) (Then (x_of w) (y_of w))
    (cond (eqb (op_of w) 4) (Or (x_of w) (y_of w))
    (cond (eqb (op_of w) 5) (Repeat (x_of w) (y_of w) (more_in (z_of w))) Empty))))

-- the number of copies more in a word
abbrev pub number_in : Option ℕ → ℕ
number_in None = cap
number_in (Some j) = j

-- the word of a node
abbrev pub word_of : Node → ℕ
word_of Empty = word 0 0 0 0
word_of Item = word 1 0 0 0
word_of (node.Assertion a) = word 2 (code_of (meant a)) 0 0
word_of (Then x y) = word 3 x y 0
word_of (Or x y) = word 4 x y 0
word_of (Repeat x n j) = word 5 x n (number_in j)

-- a word has room for the node's numbers
abbrev pub InWord : Node → Type 0
InWord Empty = Unit {0}
InWord Item = Unit {0}
InWord (node.Assertion a) = Unit {0}
InWord (Then x y) = (x < 2 ^ 13) × (y < 2 ^ 17)
InWord (Or x y) = (x < 2 ^ 13) × (y < 2 ^ 17)
InWord (Repeat x n j) = (x < 2 ^ 13) × (n < 2 ^ 17) × (number_in j < 2 ^ 31)

-- the tree of a node, where `set` stands before it and t gives the trees of smaller numbers
abbrev pub tree_of : Node → ByteSet → (ℕ → Syntax) → Syntax
tree_of Empty set t = empty
tree_of Item set t = item set
tree_of (node.Assertion a) set t = assertion (meant a)
tree_of (Then x y) set t = then (t x) (t y)
tree_of (Or x y) set t = or (t x) (t y)
tree_of (Repeat x n j) set t = repeat (t x) n (extra_in j)
