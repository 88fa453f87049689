-- What the private functions promise one another, and what they ask. No public contract cites it.
use Rattle.std.specs.Prelude.{◌≡◌, Bool, true, false, cond, Option, Some, None, Result, Ok, Err, List, [], ◌∷◌, ◌++◌, ℕ, ◌+◌, ◌-◌, ◌*◌, ◌≤◌, eqb, ltb, length, get_or, drop, set, replicate}
use Rattle.std.proofs.lemmas.List.Edits.{sets}
use Rattle.refusals.specs.Refusal.{number_of}
use Rattle.refusals.specs.declared.Fault.{Fault}
use Rattle.tokens.specs.declared.Options.{Options}
use Rattle.atoms.specs.declared.Atom.{Atom}
use Rattle.atoms.specs.declared.Atom.TheVariants.{Byte, OfKind, NotOfKind, Dot, NotNewline, Start, LastLine, End, Caret, Dollar, WordEdge, NoWordEdge}
use Rattle.tokens.specs.declared as written
use Rattle.tokens.specs.Lexeme.{Token, Finish, Bar, Close, Class, One, Open, Set, Note, Unclosed, Repeat, Bad, Lexeme}
use Rattle.tokens.specs.Answer.{token, told as lexeme_told}
use Rattle.classes.specs.Class.{class_of}
use Rattle.tokens.specs.Token.{lexeme_of}
use Rattle.meaning.specs.Tree.{empty, item}
use Rattle.meaning.specs.Rule.{Assertion, at_start, at_last_line, at_end, word_edge, no_word_edge}
use Rattle.nodes.specs.Nodes.{Syntax, word, tree_at, width, lay}
use Rattle.nodes.specs.Node.{named}
use Rattle.nodes.specs.declared.layout.Assertion as code
use Rattle.nodes.specs.Invariants.{Tidy}
use Rattle.pattern.specs.Walk.{Target, nothing, single, Frame, State, Read, tree, refused, Next, stop, go, chained, chosen, with_item, caret, dollar, one, closing, walk}
use Rattle.pattern.specs.declared.writer.Arena.{Arena}
use Rattle.pattern.specs.declared.items.Parser.{Parser}

-- ---- the words

-- how many words the readers have
abbrev pub lent : ℕ
lent = 8192

abbrev pub unwritten : Arena
unwritten = record { words = replicate lent 0; n = 0 }

-- one word more, and the five of an item
abbrev pub pushed : Arena → ℕ → Arena
pushed a w = record { words = set a.words a.n w; n = a.n + 1 }

abbrev pub pushed_item : Arena → List ℕ → Arena
pushed_item a bytes = record { words = sets a.words a.n (bytes ++ (word 1 0 0 0 ∷ [])); n = a.n + 5 }

-- words for six nodes a byte that is unread, and `more`
pub record Room (s : List ℕ) (p : Parser) (more : ℕ) : Type 0 where
  pub inside : p.at ≤ length s
  pub space : p.tree.n + 6 * (length s - p.at) + more ≤ lent
  pub long : length p.tree.words ≡ lent

-- ---- the walk

-- where the walk is, by its parts
abbrev pub state : List Frame → List Syntax → List Syntax → Options → Target → State
state st al it o t = record { stack = st; branches = al; items = it; options = o; target = t }

-- the walk from place `at` on
abbrev pub from : List ℕ → ℕ → State → Read
from s at m = walk (drop at s) 0 at m

-- the walk after the byte at place `at`, by what stood there
abbrev pub follow : List ℕ → ℕ → Next → Read
follow s at (stop number place) = refused number place
follow s at (go k m) = walk (drop (at + 1) s) k (at + 1) m

-- the end of the pattern, where t is the innermost group's inside
abbrev pub ended : ℕ → Syntax → List Frame → Read
ended e t [] = tree t
ended e t (f ∷ fs) = refused 12 e

-- the walk where the innermost group's inside, t, has ended at place e: at a `)` or at the
-- pattern's end
unfoldable pub group_ends : List ℕ → List Frame → Syntax → ℕ → Read
group_ends s st t e = cond (ltb e (length s)) (follow s e (closing e st t)) (ended e t st)

-- the walk where a branch t has ended at place e: at a `|`, or with its group
unfoldable pub branch_ends : List ℕ → List Frame → List Syntax → Syntax → Options → ℕ → Read
branch_ends s st al t o e = cond (eqb (get_or s e 0) 124) (from s (e + 1) (state st (t ∷ al) [] o nothing)) (group_ends s st (chosen al t) e)

-- the walk where the members of a class begin at place `at`
unfoldable pub class_ends : List ℕ → ℕ → State → Read
class_ends s at m =
    let c = class_of m.options.caseless (drop at s) at in
    cond (eqb c.number 0) (from s c.place (with_item m (item c.set) single)) (refused c.number c.place)

-- ---- the answers

-- a refusal stands; else w
abbrev pub onward : Result ℕ Fault → Read → Read
onward (Ok root) w = w
onward (Err f) w = refused (number_of f.refusal) f.place

-- the tree that an answer names, where there is one
abbrev pub told : Parser → Result ℕ Fault → Syntax
told q (Ok root) = tree_at q.tree.words root
told q (Err f) = empty

-- where a tree t was read, its node is `root`: the words a now have t's nodes too, of which root's
-- is the last; the place is `lo` or later, and the words left are enough for what is unread
pub record Read-up (s : List ℕ) (a : Arena) (q : Parser) (lo room : ℕ) (t : Syntax) (root : ℕ) : Type 0 where
  pub words : q.tree.words ≡ sets a.words a.n (lay a.n t)
  pub tidy : Tidy t
  pub count : q.tree.n ≡ a.n + width t
  pub top : root + 1 ≡ q.tree.n
  pub on : lo ≤ q.at
  pub inside : q.at ≤ length s
  pub space : q.tree.n + 6 * (length s - q.at) ≤ room

abbrev pub Reads : List ℕ → Arena → Parser → (lo room : ℕ) → Result ℕ Fault → Type 0
Reads s a q lo room (Ok root) = Read-up s a q lo room (tree_at q.tree.words root) root
Reads s a q lo room (Err f) = Unit {0}

-- what a reader says: P of the tree that it names, which it has read where it did not refuse
pub record Said (P : Syntax → Type 0) (s : List ℕ) (a : Arena) (q : Parser) (lo room : ℕ) (r : Result ℕ Fault) : Type 0 where
  pub says : P (told q r)
  pub reads : Reads s a q lo room r

-- For every stack and all finished branches and items below: the walk from here is the walk from
-- where the reading is then, with the tree that the answer names.
abbrev pub SaysBranches : List ℕ → Parser → ℕ → Parser → Result ℕ Fault → Syntax → Type 0
SaysBranches s p d q r t =
    (st : List Frame) (al : List Syntax) → length st ≡ d → from s p.at (state st al [] p.options nothing) ≡ onward r (group_ends s st (chosen al t) q.at)

abbrev pub SaysSequence : List ℕ → Parser → ℕ → Parser → Result ℕ Fault → Syntax → Type 0
SaysSequence s p d q r t =
    (st : List Frame) (al it : List Syntax)
    → length st ≡ d → from s p.at (state st al it p.options nothing) ≡ onward r (branch_ends s st al (chained it t) q.options q.at)

-- where an item was read, with its quantifier: a note after it may have opened a quote, or ended it
abbrev pub goes_on : List ℕ → List Frame → List Syntax → List Syntax → Parser → Result ℕ Fault → Syntax → Read
goes_on s st al it q r t = onward r (from s q.at (state st al (t ∷ it) q.options nothing))

abbrev pub SaysItem : List ℕ → Parser → ℕ → Parser → Result ℕ Fault → Syntax → Type 0
SaysItem s p d q r t =
    (st : List Frame) (al it : List Syntax) → length st ≡ d → from s p.at (state st al it p.options nothing) ≡ goes_on s st al it q r t

abbrev pub SaysOne : List ℕ → Parser → Atom → Parser → Result ℕ Fault → Syntax → Type 0
SaysOne s p x q r t = (st : List Frame) (al it : List Syntax) → from s p.at (one (state st al it p.options nothing) x) ≡ goes_on s st al it q r t

abbrev pub SaysClass : List ℕ → Parser → Parser → Result ℕ Fault → Syntax → Type 0
SaysClass s p q r t = (st : List Frame) (al it : List Syntax) → class_ends s p.at (state st al it p.options nothing) ≡ goes_on s st al it q r t

-- words for six nodes a byte from a place on, and `more`
abbrev pub room_from : List ℕ → Parser → (at more : ℕ) → ℕ
room_from s p at more = p.tree.n + 6 * (length s - at) + more

abbrev pub SaidBranches : List ℕ → Parser → Parser → ℕ → Result ℕ Fault → Type 0
SaidBranches s p q d r = Said (SaysBranches s p d q r) s p.tree q p.at (room_from s p p.at 1) r

abbrev pub SaidSequence : List ℕ → Parser → Parser → ℕ → Result ℕ Fault → Type 0
SaidSequence s p q d r = Said (SaysSequence s p d q r) s p.tree q p.at (room_from s p p.at 1) r

abbrev pub SaidItem : List ℕ → Parser → Parser → ℕ → Result ℕ Fault → Type 0
SaidItem s p q d r = Said (SaysItem s p d q r) s p.tree q (p.at + 1) (room_from s p (p.at + 1) 5) r

abbrev pub SaidOne : List ℕ → Parser → Parser → Atom → Result ℕ Fault → Type 0
SaidOne s p q x r = Said (SaysOne s p x q r) s p.tree q p.at (room_from s p p.at 5) r

abbrev pub SaidClass : List ℕ → Parser → Parser → Result ℕ Fault → Type 0
SaidClass s p q r = Said (SaysClass s p q r) s p.tree q p.at (room_from s p p.at 5) r

-- where the quantifier that may stand here was read, after a tree x
abbrev pub SaysQuantified : List ℕ → Parser → Syntax → Parser → Result ℕ Fault → Syntax → Type 0
SaysQuantified s p x q r t =
    (st : List Frame) (al it : List Syntax) → from s p.at (state st al (x ∷ it) p.options single) ≡ goes_on s st al it q r t

-- the tree that is repeated is the one of node `root`, which was read over some words a
abbrev pub SaidQuantified : List ℕ → Parser → Parser → ℕ → Result ℕ Fault → Type 0
SaidQuantified s p q root r =
    (a : Arena) (lo room : ℕ)
    → Read-up s a p lo room (tree_at p.tree.words root) root
    → Said (SaysQuantified s p (tree_at p.tree.words root) q r) s a q lo room r

-- the assertion that an atom stands for, if it does; and as the code names it
abbrev pub assertion_for : Options → Atom → Option Assertion
assertion_for o (Byte b) = None
assertion_for o (OfKind k) = None
assertion_for o (NotOfKind k) = None
assertion_for o Dot = None
assertion_for o NotNewline = None
assertion_for o Start = Some at_start
assertion_for o LastLine = Some at_last_line
assertion_for o End = Some at_end
assertion_for o Caret = Some (caret o)
assertion_for o Dollar = Some (dollar o)
assertion_for o WordEdge = Some word_edge
assertion_for o NoWordEdge = Some no_word_edge

abbrev pub in_code : Option Assertion → Option code.Assertion
in_code None = None
in_code (Some y) = Some (named y)

-- ---- the token at a place

-- the fault of a token with fault f where nothing stands before it that a quantifier could repeat
abbrev pub fault_for : ℕ → Token → ℕ
fault_for f Finish = f
fault_for f Bar = f
fault_for f Close = f
fault_for f Class = f
fault_for f (One a) = f
fault_for f (Open o) = f
fault_for f (Set o) = f
fault_for f (Note o) = f
fault_for f Unclosed = f
fault_for f (Repeat least extra) = 10
fault_for f Bad = f

abbrev pub fault_of : Lexeme → ℕ
fault_of l = fault_for l.fault l.token

-- a token that neither ends a branch, nor sets options, nor is a note
abbrev pub begins : Token → Bool
begins Finish = false
begins Bar = false
begins Close = false
begins Class = true
begins (One a) = true
begins (Open o) = true
begins (Set o) = false
begins (Note o) = false
begins Unclosed = false
begins (Repeat least extra) = true
begins Bad = true

pub record Here (s : List ℕ) (at : ℕ) (o : Options) (size : ℕ) (t : written.Token.Token) : Type 0 where
  pub is : lexeme_told size (Ok t) ≡ lexeme_of o (drop at s)
  pub begins : begins (token t) ≡ true
