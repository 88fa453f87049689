-- What every reading gives: a refusal with a number, or a tree that fits the words and is read back
-- from them. Each token adds at most six words a byte and only tidy trees, so the walk keeps both.
-- Assumes nothing.
use mathlib.Core.Path.{◌≡◌, refl, sym, ap, ◌∙◌}
use mathlib.Core.Bool.{Bool, true, false, cond}
use mathlib.Core.List.{List, [], ◌∷◌}
use Prim.Native.Nat.{ℕ, zero, suc, pred, ◌+◌, ◌-◌, ◌*◌, ◌≤◌, ◌<◌}
use native.Mathlib.Omega.{arith}
use borrow.Author.Tests.{eqb-true, eqb-false, ltb-false}
use lib.Dec.{eqb, leb, ltb}
use lib.ListN.{length, drop, replicate}
use Rattle.tokens.specs.declared.Options.{Options}
use Rattle.atoms.specs.declared.Atom.{Atom}
use Rattle.atoms.specs.declared.Atom.TheVariants.{Byte, OfKind, NotOfKind, Dot, NotNewline, Start, LastLine, End, Caret, Dollar, WordEdge, NoWordEdge}
use Rattle.tokens.specs.Lexeme.{Token}
use Rattle.tokens.specs.Lexeme.{Finish, Bar, Close, Class, One, Open, Set, Note, Unclosed, Repeat, Bad}
use Rattle.tokens.specs.Lexeme.{Lexeme}
use Rattle.atoms.specs.Fault.{lower}
use Rattle.classes.specs.Class.{class_of}
use Rattle.tokens.specs.Token.{lexeme_of}
use Rattle.meaning.specs.Tree.{empty, item, then, or}
use Rattle.meaning.specs.Count.{limit, saturating, nullable}
use Rattle.nodes.specs.Nodes.{Syntax, tree_at, width}
use Rattle.pattern.specs.Walk.{Target, nothing, single, Frame, State, Read, tree, refused, Next, stop, go, chained, chosen, branch_of, group_of, with_item, one, deepest, repeating, closing, opening, act, context, next, finish, walk, begin}
use Rattle.pattern.specs.Read.{longest, too_long, judged, read_of, limited_read, room, Answer, answer_of}
use Rattle.nodes.specs.Invariants.{Tidy}
use Rattle.pattern.proofs.Base.{either}
use Rattle.pattern.proofs.Lexemes.{Right, lexeme-sound}
use Rattle.pattern.proofs.Sets.{words-item, class-closed}
use Rattle.nodes.proofs.Trees.{extra-number, width-pos, front-tree}

-- ---- lists of trees

AllTidy : List Syntax → Type 0
AllTidy [] = Unit {0}
AllTidy (x ∷ xs) = Tidy x × AllTidy xs

-- the words of some trees, with one more for each
weigh : List Syntax → ℕ
weigh [] = 0
weigh (x ∷ xs) = width x + 1 + weigh xs

chained-tidy : (xs : List Syntax) (t : Syntax) → AllTidy xs → Tidy t → Tidy (chained xs t)
unfolding chained AllTidy Tidy
chained-tidy [] t d e = e
chained-tidy (x ∷ xs) t d e = chained-tidy xs (then x t) d.1 (d.0, e)

chosen-tidy : (xs : List Syntax) (t : Syntax) → AllTidy xs → Tidy t → Tidy (chosen xs t)
unfolding chosen AllTidy Tidy
chosen-tidy [] t d e = e
chosen-tidy (x ∷ xs) t d e = chosen-tidy xs (or x t) d.1 (d.0, e)

chained-width : (xs : List Syntax) (t : Syntax) → width (chained xs t) ≡ weigh xs + width t
unfolding chained weigh width
chained-width [] t = omega arith
chained-width (x ∷ xs) t = omega (arith, chained-width xs (then x t))

chosen-width : (xs : List Syntax) (t : Syntax) → width (chosen xs t) ≡ weigh xs + width t
unfolding chosen weigh width
chosen-width [] t = omega arith
chosen-width (x ∷ xs) t = omega (arith, chosen-width xs (or x t))

-- ---- what the walk keeps

FramesTidy : List Frame → Type 0
FramesTidy [] = Unit {0}
FramesTidy (f ∷ fs) = AllTidy f.branches × AllTidy f.items × FramesTidy fs

weigh_frames : List Frame → ℕ
weigh_frames [] = 0
weigh_frames (f ∷ fs) = weigh f.branches + weigh f.items + weigh_frames fs

record Kept (at : ℕ) (m : State) : Type 0 where
  branches : AllTidy m.branches
  items : AllTidy m.items
  frames : FramesTidy m.stack
  narrow : weigh m.branches + weigh m.items + weigh_frames m.stack ≤ 6 * at

later : (at : ℕ) (m : State) → Kept at m → Kept (at + 1) m
later at m k = record { branches = k.branches; items = k.items; frames = k.frames; narrow = omega (arith, k.narrow) }

-- the inside of the innermost group
group-tidy : (at : ℕ) (m : State) → Kept at m → Tidy (group_of m)
unfolding Tidy
group-tidy at m k = chosen-tidy m.branches (branch_of m) k.branches (chained-tidy m.items empty k.items tt)

group-width : (m : State) → width (group_of m) ≡ weigh m.branches + weigh m.items + 1
unfolding width
group-width m = omega (arith, chosen-width m.branches (branch_of m), chained-width m.items empty)

-- one token: a refusal has a number, and what is kept is kept
Fine-next : ℕ → Next → Type 0
Fine-next at (stop number place) = number ≡ 0 → ⊥
Fine-next at (go k m) = Kept (at + 1) m

item-fine : (at k : ℕ) (m : State) (x : Syntax) (t : Target) → Kept at m → Tidy x → width x ≤ 5 → Fine-next at (go k (with_item m x t))
unfolding Fine-next AllTidy weigh
item-fine at k m x t h d w = record { branches = h.branches; items = (d, h.items); frames = h.frames; narrow = omega (arith, h.narrow) }

one-fine : (at k : ℕ) (m : State) (a : Atom) → Kept at m → Fine-next at (go k (one m a))
unfolding one Tidy width
one-fine at k m (Byte b) h = item-fine at k m _ single h (words-item m.options (Byte b)) (omega arith)
one-fine at k m (OfKind b) h = item-fine at k m _ single h (words-item m.options (OfKind b)) (omega arith)
one-fine at k m (NotOfKind b) h = item-fine at k m _ single h (words-item m.options (NotOfKind b)) (omega arith)
one-fine at k m Dot h = item-fine at k m _ single h (words-item m.options Dot) (omega arith)
one-fine at k m NotNewline h = item-fine at k m _ single h (words-item m.options NotNewline) (omega arith)
one-fine at k m Start h = item-fine at k m _ nothing h tt (omega arith)
one-fine at k m LastLine h = item-fine at k m _ nothing h tt (omega arith)
one-fine at k m End h = item-fine at k m _ nothing h tt (omega arith)
one-fine at k m Caret h = item-fine at k m _ nothing h tt (omega arith)
one-fine at k m Dollar h = item-fine at k m _ nothing h tt (omega arith)
one-fine at k m WordEdge h = item-fine at k m _ nothing h tt (omega arith)
one-fine at k m NoWordEdge h = item-fine at k m _ nothing h tt (omega arith)

closing-fine : (at : ℕ) (st : List Frame) (t : Syntax) → FramesTidy st → Tidy t → width t + weigh_frames st ≤ 6 * at + 1 → Fine-next at (closing at st t)
unfolding Fine-next closing FramesTidy weigh_frames AllTidy weigh
closing-fine at [] t f d w = λ z. omega arith
closing-fine at (f ∷ fs) t d e w = record { branches = d.0; items = (e, d.1); frames = d.2; narrow = omega arith }

repeat-tidy : (xs : List Syntax) (n j : ℕ) → AllTidy xs → n < 65536 → AllTidy (repeating xs n j)
unfolding repeating AllTidy Tidy
repeat-tidy [] n j d h = tt
repeat-tidy (x ∷ xs) n j d h = ((d.0, h, extra-number j), d.1)

repeat-weigh : (xs : List Syntax) (n j : ℕ) → weigh (repeating xs n j) ≤ weigh xs + 1
unfolding repeating weigh width
repeat-weigh [] n j = omega arith
repeat-weigh (x ∷ xs) n j = omega arith

tidy-empty : Tidy empty
unfolding Tidy
tidy-empty = tt

width-empty : width empty ≡ 1
unfolding width
width-empty = refl

class-fine : (at : ℕ) (v : List ℕ) (m : State) → Kept at m → Fine-next at (act at v m 1 Class)
unfolding act Fine-next Tidy width
class-fine at v m h =
    let c = class_of m.options.caseless (drop 1 v) (at + 1) in
    either (Fine-next at) (eqb c.number 0)
    (λ e. item-fine at (c.place - (at + 1)) m (item c.set) single h (class-closed m.options.caseless (drop 1 v) (at + 1) (eqb-true c.number 0 e)).words (omega arith))
    (λ e. eqb-false c.number 0 e)

open-fine : (at k : ℕ) (m : State) (o : Options) → Kept at m → Fine-next at (opening at k m o)
unfolding opening Fine-next FramesTidy weigh_frames AllTidy weigh
open-fine at k m o h =
    either (Fine-next at) (leb deepest (length m.stack)) (λ e z. omega arith)
    (λ e. record { branches = tt; items = tt; frames = (h.branches, h.items, h.frames); narrow = omega (arith, h.narrow) })

act-fine : (at : ℕ) (v : List ℕ) (m : State) (size c f : ℕ) (t : Token) → Kept at m → Right c f t → Fine-next at (act at v m size t)
unfolding act Fine-next AllTidy weigh
act-fine at v m size c f Finish h r = later at m h
act-fine at v m size c f Bar h r = record {
  branches = (chained-tidy m.items empty h.items tidy-empty, h.branches);
  items = tt;
  frames = h.frames;
  narrow = omega (arith, h.narrow, chained-width m.items empty, width-empty);
}
act-fine at v m size c f Close h r = closing-fine at m.stack (group_of m) h.frames (group-tidy at m h) (omega (arith, h.narrow, group-width m))
act-fine at v m size c f Class h r = class-fine at v m h
act-fine at v m size c f (One a) h r = one-fine at (pred size) m a h
act-fine at v m size c f (Open o) h r = open-fine at (pred size) m o h
act-fine at v m size c f (Set o) h r = record { branches = h.branches; items = h.items; frames = h.frames; narrow = omega (arith, h.narrow) }
act-fine at v m size c f (Note o) h r = record { branches = h.branches; items = h.items; frames = h.frames; narrow = omega (arith, h.narrow) }
act-fine at v m size c f Unclosed h r = λ z. omega arith
act-fine at v m size c f (Repeat n j) h r = record {
  branches = h.branches;
  items = repeat-tidy m.items n j h.items r.0;
  frames = h.frames;
  narrow = omega (arith, h.narrow, repeat-weigh m.items n j);
}
act-fine at v m size c f Bad h r = later at m h

next-fine : (at b : ℕ) (v : List ℕ) (m : State) → Kept at m → Fine-next at (next at (b ∷ v) m)
unfolding next Fine-next
next-fine at b v m h =
    let l : Lexeme = lexeme_of m.options (b ∷ v) in
    let fault : ℕ = lower (context m l.token) l.fault in
    either (Fine-next at) (eqb fault 0)
    (λ e. act-fine at (b ∷ v) m l.size b l.fault l.token h (lexeme-sound m.options b v).right)
    (λ e. eqb-false fault 0 e)

-- ---- what a reading gives

-- a refusal has a number; a tree is tidy, and takes at most six words a byte and one more
Fine : ℕ → Read → Type 0
Fine n (refused number place) = number ≡ 0 → ⊥
Fine n (tree t) = Tidy t × (width t ≤ 6 * n + 1)

finish-fine : (at n : ℕ) (m : State) (st : List Frame) → Kept at m → at ≤ n → Fine n (finish at m st)
unfolding finish Fine
finish-fine at n m [] h l = (group-tidy at m h, omega (arith, h.narrow, group-width m))
finish-fine at n m (f ∷ fs) h l = λ z. omega arith

-- what a token leads to
after-fine : (v : List ℕ) (at n : ℕ) (x : Next) → Fine-next at x → ((k : ℕ) (m : State) → Kept (at + 1) m → Fine n (walk v k (at + 1) m))
    → Fine n (elim x as (λ y. Read) [ stop number place ↦ refused number place | go k m ↦ walk v k (at + 1) m ])
unfolding Fine Fine-next
after-fine v at n (stop number place) f g = f
after-fine v at n (go k m) f g = g k m f

walk_fine : (v : List ℕ) (skip at n : ℕ) (m : State) → Kept at m → at + length v ≤ n → Fine n (walk v skip at m)
unfolding walk
walk_fine [] skip at n m h l = finish-fine at n m m.stack h (omega arith)
walk_fine (b ∷ v) (suc k) at n m h l = walk_fine v k (at + 1) n m (later at m h) (omega arith)
walk_fine (b ∷ v) zero at n m h l =
    after-fine v at n (next at (b ∷ v) m) (next-fine at b v m h) (λ k p q. walk_fine v k (at + 1) n p q (omega arith))

begin-kept : (o : Options) → Kept 0 (begin o)
unfolding AllTidy weigh FramesTidy weigh_frames
begin-kept o = record { branches = tt; items = tt; frames = tt; narrow = omega arith }

-- what an accepted tree is besides
record Judged (t : Syntax) : Type 0 where
  some : nullable t ≡ false
  few : saturating t ≤ limit

Good : Read → Type 0
Good (refused number place) = number ≡ 0 → ⊥
Good (tree t) = Tidy t × (width t ≤ 6145) × Judged t

judged-good : (n : ℕ) (r : Read) → n ≤ longest → Fine n r → Good (judged n r)
unfolding judged Fine Good
judged-good n (refused number place) h f = f
judged-good n (tree t) h f =
    either Good (nullable t) (λ e z. omega arith)
    (λ e. either Good (ltb limit (saturating t)) (λ g z. omega arith)
    (λ g. (f.0, omega (arith, f.1), record { some = e; few = ltb-false limit (saturating t) g })))

read-good : (s : List ℕ) (o : Options) → Good (limited_read s o)
unfolding limited_read read_of Good
read-good s o =
    either Good (ltb longest (length s)) (λ e z. omega arith)
    (λ e. judged-good (length s) (walk s 0 0 (begin o)) (ltb-false longest (length s) e) (walk_fine s 0 0 (length s) (begin o) (begin-kept o) (omega arith)))

-- Of an accepted reading: its words hold its tree at its root, its items' sets are four 64-bit
-- words (`Tidy`), and the rest of what it says.
pub record Accepted (r : Answer) (t : Syntax) : Type 0 where
  pub tree : tree_at r.nodes r.root ≡ t
  pub tidy : Tidy t
  pub root : r.root < r.size
  pub size : r.size ≤ 6145
  pub positions : r.positions ≡ saturating t
  pub some : nullable t ≡ false
  pub few : saturating t ≤ limit

answer-accepted : (t : Syntax) → Good (tree t) → Accepted (answer_of (tree t)) t
unfolding Good answer_of
answer-accepted t g =
    let p = width-pos t in
    record {
      tree = front-tree t (replicate (room - width t) 0) (omega (arith, g.1)) g.0;
      tidy = g.0;
      root = omega arith;
      size = g.1;
      positions = refl;
      some = g.2.some;
      few = g.2.few;
    }

refusal-number : (number place : ℕ) → Good (refused number place) → (answer_of (refused number place)).number ≡ 0 → ⊥
unfolding Good answer_of
refusal-number number place g = g

-- what the reader gives a tree of is not too long, and reads as that tree
pub within : (s : List ℕ) (o : Options) (t : Syntax) → limited_read s o ≡ tree t → (length s ≤ longest) × (read_of s o ≡ tree t)
unfolding limited_read
within s o t = go (too_long s) refl
  where
    go : (b : Bool) → too_long s ≡ b → cond b (refused 5 0) (read_of s o) ≡ tree t → (length s ≤ longest) × (read_of s o ≡ tree t)
    go true p e = let z : ◌≡◌ {A = ℕ} 0 1 = cc in absurd (omega arith)
    go false p e = (ltb-false longest (length s) p, e)

-- a reading with number 0 has a tree
pub accepted-tree : (s : List ℕ) (o : Options) (r : Answer) → r ≡ answer_of (limited_read s o) → r.number ≡ 0 → (t : Syntax) × (limited_read s o ≡ tree t) × Accepted r t
accepted-tree s o r e z = go (limited_read s o) refl (read-good s o)
  where
    go : (x : Read) → limited_read s o ≡ x → Good x → (t : Syntax) × (limited_read s o ≡ tree t) × Accepted r t
    go (tree t) q g = (t, q, rw (e, q) (answer-accepted t g))
    go (refused number place) q g = absurd (refusal-number number place g (sym (ap (λ (x : Answer). x.number) (e ∙ ap answer_of q)) ∙ z))
