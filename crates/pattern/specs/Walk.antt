-- Reading a pattern: a walk over its bytes from left to right with the open groups on a stack,
-- where "the first faulty token decides". Assumes nothing: these are definitions.
use Rattle.std.specs.Prelude.{cond, List, [], ◌∷◌, ℕ, zero, suc, pred, ◌+◌, ◌-◌, eqb, leb}
use lib.ListN.{length}
use Rattle.atoms.specs.declared.Atom.{Atom}
use Rattle.atoms.specs.declared.Atom.TheVariants.{Byte, OfKind, NotOfKind, Dot, NotNewline, Start, LastLine, End, Caret, Dollar, WordEdge, NoWordEdge}
use Rattle.tokens.specs.declared.Options.{Options}
use Rattle.tokens.specs.Lexeme.{Token}
use Rattle.tokens.specs.Lexeme.{Finish, Bar, Close, Class, One, Open, Set, Note, Unclosed, Repeat, Bad}
use Rattle.tokens.specs.Lexeme.{Lexeme}
use Rattle.atoms.specs.Fault.{lower}
use Rattle.classes.specs.Class.{class_of}
use Rattle.tokens.specs.Token.{lexeme_of, item_set}
use Rattle.meaning.specs.Tree.{empty, item, assertion, then, or, repeat}
use Rattle.meaning.specs.Rule.{Assertion, at_start, at_last_line, at_end, line_start, line_end, word_edge, no_word_edge}
use Rattle.nodes.specs.Nodes.{Syntax, extra_of}

-- what a quantifier at this place would repeat: nothing, an item or a group, or one that has a
-- quantifier already
pub data Target : Type 0 where
  nothing : Target
  single : Target
  repeated : Target

-- an open group: the finished branches and the items before it in the group around it, last first,
-- and the options there
pub record Frame : Type 0 where
  pub branches : List Syntax
  pub items : List Syntax
  pub options : Options

-- where the walk is: the open groups, innermost first; of the innermost one the finished branches
-- and the items of the branch that is being read, last first; the options; what a quantifier would
-- repeat
pub record State : Type 0 where
  pub stack : List Frame
  pub branches : List Syntax
  pub items : List Syntax
  pub options : Options
  pub target : Target

-- what reading gives: a tree, or a refusal's number and place
pub data Read : Type 0 where
  tree : Syntax → Read
  refused : (number place : ℕ) → Read

-- one token: a refusal, or how many bytes it takes besides its first and where the walk is then
pub data Next : Type 0 where
  stop : (number place : ℕ) → Next
  go : ℕ → State → Next

-- the items of a branch, last first, as a tree before t; and the branches of a group
unfoldable pub chained : List Syntax → Syntax → Syntax
chained [] t = t
chained (x ∷ xs) t = chained xs (then x t)

unfoldable pub chosen : List Syntax → Syntax → Syntax
chosen [] t = t
chosen (x ∷ xs) t = chosen xs (or x t)

-- the branch that is being read, and the group
abbrev pub branch_of : State → Syntax
branch_of m = chained m.items empty

abbrev pub group_of : State → Syntax
group_of m = chosen m.branches (branch_of m)

abbrev pub with_item : State → Syntax → Target → State
with_item m x t = record { stack = m.stack; branches = m.branches; items = x ∷ m.items; options = m.options; target = t }

abbrev pub with_options : State → Options → State
with_options m o = record { stack = m.stack; branches = m.branches; items = m.items; options = o; target = nothing }

-- "A quantifier after a comment applies to the item before, and is 10 if that has one already":
-- what it would repeat stays
abbrev pub noted : State → Options → State
noted m o = record { stack = m.stack; branches = m.branches; items = m.items; options = o; target = m.target }

-- What `^` and `$` stand for where the options are these: "`^` and `\A` hold at offset 0 only",
-- "PCRE also lets `$` hold just before a newline that is the last byte. Mend it"; and "Add flag 4
-- and option `m`: `^` also holds after a byte 10 that isn't the stream's last byte, `$` also before
-- any byte 10."
abbrev pub caret : Options → Assertion
caret o = cond o.lines line_start at_start

abbrev pub dollar : Options → Assertion
dollar o = cond o.lines line_end at_last_line

-- An item takes a quantifier, an assertion does not. "Add `\Z` with the same meaning" as `$`
-- without `m`, "`\z` stays"; "Add `\b` and `\B`".
unfoldable pub one : State → Atom → State
one m (Byte b) = with_item m (item (item_set m.options (Byte b))) single
one m (OfKind k) = with_item m (item (item_set m.options (OfKind k))) single
one m (NotOfKind k) = with_item m (item (item_set m.options (NotOfKind k))) single
one m Dot = with_item m (item (item_set m.options Dot)) single
one m NotNewline = with_item m (item (item_set m.options NotNewline)) single
one m Start = with_item m (assertion at_start) nothing
one m LastLine = with_item m (assertion at_last_line) nothing
one m End = with_item m (assertion at_end) nothing
one m Caret = with_item m (assertion (caret m.options)) nothing
one m Dollar = with_item m (assertion (dollar m.options)) nothing
one m WordEdge = with_item m (assertion word_edge) nothing
one m NoWordEdge = with_item m (assertion no_word_edge) nothing

-- "Groups open at once: 16"
abbrev pub deepest : ℕ
deepest = 16

-- the last item repeated; where there is none, a quantifier has fault 10 and this is not asked
unfoldable pub repeating : List Syntax → ℕ → ℕ → List Syntax
repeating [] least extra = []
repeating (x ∷ xs) least extra = repeat x least (extra_of extra) ∷ xs

-- 10: "quantifier at the start of a pattern, group or branch, or after an assertion, an option
-- setting or another quantifier"
abbrev pub target_fault : Target → ℕ
target_fault nothing = 10
target_fault single = 0
target_fault repeated = 10

-- 12: "`)` without one". Else the group becomes an item of the one around it, whose options hold
-- again: "A setting lasts to the end of its group, later branches included."
unfoldable pub closing : ℕ → List Frame → Syntax → Next
closing at [] t = stop 12 at
closing at (f ∷ fs) t = go 0 (record { stack = fs; branches = f.branches; items = t ∷ f.items; options = f.options; target = single })

-- 13: "a 17th group open"
unfoldable pub opening : ℕ → ℕ → State → Options → Next
opening at skip m o =
    cond (leb deepest (length m.stack)) (stop 13 at)
    (go skip (record { stack = record { branches = m.branches; items = m.items; options = m.options } ∷ m.stack; branches = []; items = []; options = o; target = nothing }))

-- What a token without a fault does, at place `at` with v from there on. A `|` keeps the options:
-- "later branches included". "An open comment is 12 at the pattern's length". `Finish` is no token
-- of a byte and `Bad` has a fault, so these two do not occur.
unfoldable pub act : (at : ℕ) → List ℕ → State → (size : ℕ) → Token → Next
act at v m size Finish = go 0 m
act at v m size Bar = go 0 (record { stack = m.stack; branches = branch_of m ∷ m.branches; items = []; options = m.options; target = nothing })
act at v m size Close = closing at m.stack (group_of m)
act at v m size Class =
    let c = class_of m.options.caseless (lib.ListN.drop 1 v) (at + 1) in
    cond (eqb c.number 0) (go (c.place - (at + 1)) (with_item m (item c.set) single)) (stop c.number c.place)
act at v m size (One a) = go (pred size) (one m a)
act at v m size (Open o) = opening at (pred size) m o
act at v m size (Set o) = go (pred size) (with_options m o)
act at v m size (Note o) = go (pred size) (noted m o)
act at v m size Unclosed = stop 12 (at + length v)
act at v m size (Repeat least extra) =
    go (pred size) (record { stack = m.stack; branches = m.branches; items = repeating m.items least extra; options = m.options; target = repeated })
act at v m size Bad = go 0 m

-- a quantifier also has the fault of what stands before it
abbrev pub context : State → Token → ℕ
context m Finish = 0
context m Bar = 0
context m Close = 0
context m Class = 0
context m (One a) = 0
context m (Open o) = 0
context m (Set o) = 0
context m (Note o) = 0
context m Unclosed = 0
context m (Repeat least extra) = target_fault m.target
context m Bad = 0

-- the token at the front of v, at place `at`: "the lower number first within it", "The place is the
-- token's first byte"
unfoldable pub next : (at : ℕ) → List ℕ → State → Next
next at v m =
    let l : Lexeme = lexeme_of m.options v in
    let fault : ℕ = lower (context m l.token) l.fault in
    cond (eqb fault 0) (act at v m l.size l.token) (stop fault at)

-- the end: 12 for "group not closed", with the pattern's length as its place
unfoldable pub finish : ℕ → State → List Frame → Read
finish at m [] = tree (group_of m)
finish at m (f ∷ fs) = refused 12 at

-- the walk: v the bytes from place `at` on, of which `skip` belong to a token that was read
unfoldable pub walk : (v : List ℕ) (skip at : ℕ) → State → Read
walk [] skip at m = finish at m m.stack
walk (b ∷ v) (suc k) at m = walk v k (at + 1) m
walk (b ∷ v) zero at m = elim (next at (b ∷ v) m) [ stop number place ↦ refused number place | go k n ↦ walk v k (at + 1) n ]

abbrev pub begin : Options → State
begin o = record { stack = []; branches = []; items = []; options = o; target = nothing }
