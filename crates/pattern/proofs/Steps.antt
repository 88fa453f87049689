-- The walk, one token at a time: what stands at a place decides where the walk goes on, and with
-- which state. Assumes nothing.
use mathlib.Core.Path.{◌≡◌, refl, sym, ap, ◌∙◌}
use mathlib.Core.Bool.{Bool, true, false, cond}
use mathlib.Core.List.{List, [], ◌∷◌}
use mathlib.Core.Logic.{◌⊎◌, ⊎_elim}
use Prim.Native.Nat.{ℕ, zero, suc, pred, ◌+◌, ◌-◌, ◌≤◌, ◌<◌}
use native.Mathlib.Omega.{arith}
use native.Mathlib.Nat.{add-zero}
use borrow.Author.Tests.{eqb-true, eqb-false, lt-ltb, le-ltb, eq-eqb, ne_eqb, le-leb, lt-leb}
use lib.Dec.{eqb}
use lib.ListN.{length, get_or, drop, drop_of_length-le, length-drop, get_or-eq_default}
use lib.Seq.{drop-drop}
use Rattle.classes.specs.Class as classes
use Rattle.tokens.specs.declared.Options.{Options}
use Rattle.atoms.specs.declared.Atom.{Atom}
use Rattle.atoms.specs.declared.Atom.TheVariants.{Byte, OfKind, NotOfKind, Dot, NotNewline, Start, LastLine, End, Caret, Dollar, WordEdge, NoWordEdge}
use Rattle.tokens.specs.Lexeme.{Token}
use Rattle.tokens.specs.Lexeme.{Finish, Bar, Close, Class, One, Open, Set, Note, Unclosed, Repeat, Bad}
use Rattle.tokens.specs.Lexeme.{Lexeme}
use Rattle.atoms.specs.Fault.{lower}
use Rattle.classes.specs.Class.{class_of}
use Rattle.tokens.specs.Token.{lexeme_of}
use Rattle.atoms.proofs.Suffixes.{front}
use Rattle.tokens.proofs.Lexemes.{lexeme-end}
use Rattle.meaning.specs.Tree.{empty, item, repeat}
use Rattle.nodes.specs.Nodes.{Syntax, extra_of}
use Rattle.pattern.specs.Walk.{Target, nothing, single, repeated, Frame, State, Read, refused, Next, stop, go, chained, chosen, with_item, one, deepest, repeating, target_fault, closing, opening, act, context, next, finish, walk}
use Rattle.pattern.specs.Invariants.{state, from, follow, ended, group_ends, branch_ends, class_ends, fault_for, fault_of}
use Rattle.pattern.proofs.Base.{by-lt, split, true-not-false}
use Rattle.pattern.proofs.Lexemes.{Right, Sound, lexeme-sound}
use Rattle.pattern.proofs.Sets.{class-closed}

-- ---- the walk at the end, on one byte, and over the bytes of a token

finish-ended : (at : ℕ) (st : List Frame) (al it : List Syntax) (o : Options) (t : Target) → finish at (state st al it o t) st ≡ ended at (chosen al (chained it empty)) st
unfolding finish
finish-ended at [] al it o t = refl
finish-ended at (f ∷ fs) al it o t = refl

pub walk_end : (s : List ℕ) (at : ℕ) (st : List Frame) (al it : List Syntax) (o : Options) (t : Target) → length s ≤ at → from s at (state st al it o t) ≡ ended at (chosen al (chained it empty)) st
unfolding walk
walk_end s at st al it o t h = rw (drop_of_length-le s h) (finish-ended at st al it o t)

pub walk-on : (s : List ℕ) (at : ℕ) (m : State) → at < length s → from s at m ≡ follow s at (next at (drop at s) m)
unfolding walk
walk-on s at m h = rw (front s at h) (same (next at (get_or s at 0 ∷ drop (at + 1) s) m))
  where
    same : (x : Next) → (elim x as (λ y. Read) [ stop n p ↦ refused n p | go k n ↦ walk (drop (at + 1) s) k (at + 1) n ]) ≡ follow s at x
    same (stop n p) = refl
    same (go k n) = refl

pub walk-skip : (k : ℕ) (s : List ℕ) (at : ℕ) (m : State) → at + k ≤ length s → walk (drop at s) k at m ≡ from s (at + k) m
unfolding walk
walk-skip zero s at m h = rw (add-zero at)
walk-skip (suc k) s at m h =
    let e : at + 1 + k ≡ at + suc k = omega arith in
    rw (front s at (omega arith), ← e) (walk-skip k s (at + 1) m (omega arith))

-- ---- the token at a place

abbrev pub lex : ℕ → ℕ → Token → Lexeme
lex f k t = record { fault = f; size = k; token = t }

-- a token that is not the end
pub record At (s : List ℕ) (at : ℕ) (o : Options) (l : Lexeme) : Type 0 where
  pub is : lexeme_of o (drop at s) ≡ l
  pub inside : at < length s
  pub sound : Sound (get_or s at 0) (length s - at) l

pub at-inside : (s : List ℕ) (at : ℕ) (o : Options) (l : Lexeme) → lexeme_of o (drop at s) ≡ l → at < length s → At s at o l
at-inside s at o l e h =
    let n : suc (length (drop (at + 1) s)) ≡ length s - at = omega (arith, length-drop (at + 1) s) in
    record { is = e; inside = h; sound = rw (← e, front s at h, ← n) (lexeme-sound o (get_or s at 0) (drop (at + 1) s)) }

finish-at : (s : List ℕ) (at : ℕ) (o : Options) → length s ≤ at → lexeme_of o (drop at s) ≡ lex 0 0 Finish
finish-at s at o h = lexeme-end s at o h

-- the end's token, told from the others
abbrev pub last : Token → Bool
last Finish = true
last Bar = false
last Close = false
last Class = false
last (One a) = false
last (Open o) = false
last (Set o) = false
last (Note o) = false
last Unclosed = false
last (Repeat n j) = false
last Bad = false

-- a token other than the end stands inside the pattern
pub at-token : (s : List ℕ) (at : ℕ) (o : Options) (l : Lexeme) (t : Token) → lexeme_of o (drop at s) ≡ l → l.token ≡ t → last t ≡ false → At s at o (lex l.fault l.size t)
at-token s at o l t e et h =
    let k : lexeme_of o (drop at s) ≡ lex l.fault l.size t = e ∙ ap (lex l.fault l.size) et in
    ⊎_elim (λ lt. at-inside s at o (lex l.fault l.size t) k lt)
    (λ le. true-not-false (last t) (ap (λ (x : Lexeme). last x.token) (sym k ∙ finish-at s at o le)) h)
    (by-lt at (length s))

next_is : (at : ℕ) (v : List ℕ) (m : State) (f k : ℕ) (t : Token) → lexeme_of m.options v ≡ lex f k t → next at v m ≡ cond (eqb (lower (context m t) f) 0) (act at v m k t) (stop (lower (context m t) f) at)
unfolding next
next_is at v m f k t e = rw e

lower-none : (g : ℕ) → lower 0 g ≡ g
unfolding lower
lower-none g = refl

-- 10 is the lowest fault of a quantifier
ten-lowest : (f : ℕ) → ((f ≡ 0) ⊎ (10 ≤ f)) → lower 10 f ≡ 10
unfolding lower
ten-lowest f h = split (eqb f 0) (λ e. rw e) (λ e. rw e (⊎_elim (λ z. absurd (eqb-false f 0 e z)) (λ l. omega arith) h))

next-good : (at : ℕ) (v : List ℕ) (m : State) (f k : ℕ) (t : Token) → lexeme_of m.options v ≡ lex f k t → context m t ≡ 0 → f ≡ 0 → next at v m ≡ act at v m k t
unfolding lower
next-good at v m f k t e c z = next_is at v m f k t e ∙ rw (c, z)

next-bad : (at : ℕ) (v : List ℕ) (m : State) (f k g : ℕ) (t : Token) → lexeme_of m.options v ≡ lex f k t → lower (context m t) f ≡ g → (g ≡ 0 → ⊥) → next at v m ≡ stop g at
next-bad at v m f k g t e c z = next_is at v m f k t e ∙ rw (c, ne_eqb g 0 z)

-- what a quantifier would repeat matters only to a quantifier
one_free : (st : List Frame) (al it : List Syntax) (o : Options) (a : Atom) (x y : Target) → one (state st al it o x) a ≡ one (state st al it o y) a
unfolding one
one_free st al it o (Byte b) x y = refl
one_free st al it o (OfKind n) x y = refl
one_free st al it o (NotOfKind n) x y = refl
one_free st al it o Dot x y = refl
one_free st al it o NotNewline x y = refl
one_free st al it o Start x y = refl
one_free st al it o LastLine x y = refl
one_free st al it o End x y = refl
one_free st al it o Caret x y = refl
one_free st al it o Dollar x y = refl
one_free st al it o WordEdge x y = refl
one_free st al it o NoWordEdge x y = refl

-- neither a quantifier nor a note
abbrev pub Other : Token → Type 0
Other Finish = Unit {0}
Other Bar = Unit {0}
Other Close = Unit {0}
Other Class = Unit {0}
Other (One a) = Unit {0}
Other (Open o) = Unit {0}
Other (Set o) = Unit {0}
Other (Note o) = ⊥
Other Unclosed = Unit {0}
Other (Repeat least extra) = ⊥
Other Bad = Unit {0}

module _ (at : ℕ) (v : List ℕ) (st : List Frame) (al it : List Syntax) (o : Options) (c left f k : ℕ) where
  both : (t : Token) (x y : Target) → lexeme_of o v ≡ lex f k t
      → cond (eqb (lower (context (state st al it o x) t) f) 0) (act at v (state st al it o x) k t) (stop (lower (context (state st al it o x) t) f) at)
      ≡ cond (eqb (lower (context (state st al it o y) t) f) 0) (act at v (state st al it o y) k t) (stop (lower (context (state st al it o y) t) f) at)
      → next at v (state st al it o x) ≡ next at v (state st al it o y)
  both t x y e h = next_is at v (state st al it o x) f k t e ∙ h ∙ sym (next_is at v (state st al it o y) f k t e)

  free-next : (t : Token) (x y : Target) → lexeme_of o v ≡ lex f k t → Sound c left (lex f k t) → Other t → next at v (state st al it o x) ≡ next at v (state st al it o y)
  unfolding act opening
  free-next Finish x y e d h = absurd d.right
  free-next Bar x y e d h = both Bar x y e refl
  free-next Close x y e d h = both Close x y e refl
  free-next Class x y e d h = both Class x y e refl
  free-next (One a) x y e d h = both (One a) x y e (ap (λ (m : State). cond (eqb (lower 0 f) 0) (go (pred k) m) (stop (lower 0 f) at)) (one_free st al it o a x y))
  free-next (Open i) x y e d h = both (Open i) x y e refl
  free-next (Set i) x y e d h = both (Set i) x y e refl
  free-next (Note i) x y e d h = absurd h
  free-next Unclosed x y e d h = both Unclosed x y e refl
  free-next (Repeat n j) x y e d h = absurd h
  free-next Bad x y e d h = both Bad x y e (rw (lower-none f, ne_eqb f 0 d.right))

  -- two walks that differ in what a quantifier would repeat, after one token: they differ no more,
  -- or in that alone, past a note
  data Alike (x y : Target) : Next → Next → Type 0 where
    same : (n : Next) → Alike x y n n
    past_note : (j : ℕ) (i : Options) → Alike x y (go j (state st al it i x)) (go j (state st al it i y))

  by-same : (x y : Target) → next at v (state st al it o x) ≡ next at v (state st al it o y) → Alike x y (next at v (state st al it o x)) (next at v (state st al it o y))
  by-same x y e = rw e (same (next at v (state st al it o y)))

  alike_next : (t : Token) (x y : Target) → lexeme_of o v ≡ lex f k t → Sound c left (lex f k t) → target_fault x ≡ 10 → target_fault y ≡ 10 → Alike x y (next at v (state st al it o x)) (next at v (state st al it o y))
  unfolding act
  alike_next Finish x y e d p q = absurd d.right
  alike_next Bar x y e d p q = by-same x y (free-next Bar x y e d tt)
  alike_next Close x y e d p q = by-same x y (free-next Close x y e d tt)
  alike_next Class x y e d p q = by-same x y (free-next Class x y e d tt)
  alike_next (One a) x y e d p q = by-same x y (free-next (One a) x y e d tt)
  alike_next (Open i) x y e d p q = by-same x y (free-next (Open i) x y e d tt)
  alike_next (Set i) x y e d p q = by-same x y (free-next (Set i) x y e d tt)
  alike_next (Note i) x y e d p q =
      rw (next-good at v (state st al it o x) f k (Note i) e refl d.right, next-good at v (state st al it o y) f k (Note i) e refl d.right) (past_note (pred k) i)
  alike_next Unclosed x y e d p q = by-same x y (free-next Unclosed x y e d tt)
  alike_next (Repeat n j) x y e d p q = by-same x y (both (Repeat n j) x y e (rw (p, q, ten-lowest f d.right.2)))
  alike_next Bad x y e d p q = by-same x y (free-next Bad x y e d tt)

-- two targets that no quantifier can repeat
module _ (st : List Frame) (al it : List Syntax) (x y : Target) (p : target_fault x ≡ 10) (q : target_fault y ≡ 10) where
  after-alike : (v : List ℕ) (at : ℕ) → ((k : ℕ) (i : Options) → walk v k (at + 1) (state st al it i x) ≡ walk v k (at + 1) (state st al it i y))
      → (u : List ℕ) (o : Options) (c left f k : ℕ) (m n : Next) → Alike at u st al it o c left f k x y m n
      → ◌≡◌ {A = Read} (elim m as (λ z. Read) [ stop a b ↦ refused a b | go j w ↦ walk v j (at + 1) w ]) (elim n as (λ z. Read) [ stop a b ↦ refused a b | go j w ↦ walk v j (at + 1) w ])
  after-alike v at ih u o c left f k m n (Alike.same w) = refl
  after-alike v at ih u o c left f k m n (Alike.past_note j i) = ih j i

  finish-alike : (at : ℕ) (o : Options) (fs : List Frame) → finish at (state st al it o x) fs ≡ finish at (state st al it o y) fs
  unfolding finish
  finish-alike at o [] = refl
  finish-alike at o (g ∷ gs) = refl

  walk-alike : (v : List ℕ) (skip at : ℕ) (o : Options) → walk v skip at (state st al it o x) ≡ walk v skip at (state st al it o y)
  unfolding walk
  walk-alike [] skip at o = finish-alike at o st
  walk-alike (b ∷ v) (suc k) at o = walk-alike v k (at + 1) o
  walk-alike (b ∷ v) zero at o =
      let l : Lexeme = lexeme_of o (b ∷ v) in
      after-alike v at (λ k i. walk-alike v k (at + 1) i) (b ∷ v) o b (suc (length v)) l.fault l.size _ _
      (alike_next at (b ∷ v) st al it o b (suc (length v)) l.fault l.size l.token x y refl (lexeme-sound o b v) p q)

module _ (s : List ℕ) (at : ℕ) (st : List Frame) (al it : List Syntax) (o : Options) where
  -- after a quantifier, as after nothing
  pub free-repeated : from s at (state st al it o repeated) ≡ from s at (state st al it o nothing)
  free-repeated = walk-alike st al it repeated nothing refl refl (drop at s) 0 at o

  pub free_other : Other (lexeme_of o (drop at s)).token → from s at (state st al it o single) ≡ from s at (state st al it o nothing)
  free_other h =
      ⊎_elim
      (λ lt.
      let l : Lexeme = lexeme_of o (drop at s) in
      let a = at-inside s at o l refl lt in
      rw (walk-on s at (state st al it o single) lt, walk-on s at (state st al it o nothing) lt, free-next at (drop at s) st al it o (get_or s at 0) (length s - at) l.fault l.size l.token single nothing refl a.sound h))
      (λ le. walk_end s at st al it o single le ∙ sym (walk_end s at st al it o nothing le))
      (by-lt at (length s))

-- ---- what the walk does at each token

-- a token of k bytes without a fault
skipped : (s : List ℕ) (at k : ℕ) (m : State) → 1 ≤ k → at + k ≤ length s → follow s at (go (pred k) m) ≡ from s (at + k) m
skipped s at k m h l =
    let e : at + 1 + pred k ≡ at + k = omega arith in
    walk-skip (pred k) s (at + 1) m (omega arith) ∙ rw e

class-follow : (s : List ℕ) (at : ℕ) (m : State) → at < length s
    → follow s at (act at (drop at s) m 1 Class) ≡ class_ends s (at + 1) m
unfolding act class_ends
class-follow s at m h =
    let c : classes.Class = class_of m.options.caseless (drop (at + 1) s) (at + 1) in
    rw (drop-drop 1 at s)
    (split (eqb c.number 0)
    (λ e.
    let d = class-closed m.options.caseless (drop (at + 1) s) (at + 1) (eqb-true c.number 0 e) in
    let l : c.place ≤ length s = omega (arith, d.inside, length-drop (at + 1) s) in
    let q : at + 1 + (c.place - (at + 1)) ≡ c.place = omega (arith, d.on) in
    rw e (walk-skip (c.place - (at + 1)) s (at + 1) (with_item m (item c.set) single) (omega arith) ∙ rw q))
    (λ e. rw e))

fault-nothing : (st : List Frame) (al it : List Syntax) (o : Options) (c f : ℕ) (t : Token) → Right c f t → lower (context (state st al it o nothing) t) f ≡ fault_for f t
fault-nothing st al it o c f Finish r = absurd r
fault-nothing st al it o c f Bar r = lower-none f
fault-nothing st al it o c f Close r = lower-none f
fault-nothing st al it o c f Class r = lower-none f
fault-nothing st al it o c f (One a) r = lower-none f
fault-nothing st al it o c f (Open i) r = lower-none f
fault-nothing st al it o c f (Set i) r = lower-none f
fault-nothing st al it o c f (Note i) r = lower-none f
fault-nothing st al it o c f Unclosed r = lower-none f
fault-nothing st al it o c f (Repeat n j) r = ten-lowest f r.2
fault-nothing st al it o c f Bad r = lower-none f

module _ (s : List ℕ) (at : ℕ) (st : List Frame) (al it : List Syntax) (o : Options) (f k : ℕ) where
  stands : (t : Token) (x : Target) → At s at o (lex f k t) → context (state st al it o x) t ≡ 0 → f ≡ 0 → from s at (state st al it o x) ≡ follow s at (act at (drop at s) (state st al it o x) k t)
  stands t x a c z = walk-on s at (state st al it o x) a.inside ∙ ap (follow s at) (next-good at (drop at s) (state st al it o x) f k t a.is c z)

  fits : (t : Token) → At s at o (lex f k t) → f ≡ 0 → (1 ≤ k) × (at + k ≤ length s)
  fits t a z = (a.sound.some z, omega (arith, a.sound.fits, a.inside))

  pub from_one : (a : Atom) → At s at o (lex f k (One a)) → from s at (state st al it o nothing) ≡ from s (at + k) (one (state st al it o nothing) a)
  unfolding act
  from_one a h =
      let b = fits (One a) h h.sound.right in
      stands (One a) nothing h refl h.sound.right ∙ skipped s at k (one (state st al it o nothing) a) b.0 b.1

  pub from-set : (i : Options) → At s at o (lex f k (Set i)) → from s at (state st al it o nothing) ≡ from s (at + k) (state st al it i nothing)
  unfolding act
  from-set i h =
      let b = fits (Set i) h h.sound.right in
      stands (Set i) nothing h refl h.sound.right ∙ skipped s at k (state st al it i nothing) b.0 b.1

  -- a note, whatever a quantifier would repeat before it
  pub from-note : (i : Options) (x : Target) → At s at o (lex f k (Note i)) → from s at (state st al it o x) ≡ from s (at + k) (state st al it i x)
  unfolding act
  from-note i x h =
      let b = fits (Note i) h h.sound.right in
      stands (Note i) x h refl h.sound.right ∙ skipped s at k (state st al it i x) b.0 b.1

  pub from-unclosed : At s at o (lex f k Unclosed) → from s at (state st al it o nothing) ≡ refused 12 (length s)
  unfolding act
  from-unclosed h =
      let e : at + length (drop at s) ≡ length s = omega (arith, length-drop at s, h.inside) in
      stands Unclosed nothing h refl h.sound.right ∙ rw e

  pub from-open : (i : Options) → At s at o (lex f k (Open i)) → length st < deepest → from s at (state st al it o nothing) ≡ from s (at + k) (state (record { branches = al; items = it; options = o } ∷ st) [] [] i nothing)
  unfolding act opening
  from-open i h l =
      let b = fits (Open i) h h.sound.right in
      stands (Open i) nothing h refl h.sound.right ∙ rw (lt-leb deepest (length st) l) (skipped s at k _ b.0 b.1)

  pub from_deep : (i : Options) → At s at o (lex f k (Open i)) → deepest ≤ length st → from s at (state st al it o nothing) ≡ refused 13 at
  unfolding act opening
  from_deep i h l = stands (Open i) nothing h refl h.sound.right ∙ rw (le-leb deepest (length st) l)

  pub from-class : At s at o (lex f k Class) → from s at (state st al it o nothing) ≡ class_ends s (at + 1) (state st al it o nothing)
  unfolding act class_ends
  from-class h = stands Class nothing h refl h.sound.right ∙ class-follow s at (state st al it o nothing) h.inside

  pub from-bar : At s at o (lex f k Bar) → from s at (state st al it o nothing) ≡ from s (at + 1) (state st (chained it empty ∷ al) [] o nothing)
  unfolding act
  from-bar h = stands Bar nothing h refl h.sound.right.1

  pub from-close : At s at o (lex f k Close) → from s at (state st al it o nothing) ≡ follow s at (closing at st (chosen al (chained it empty)))
  unfolding act
  from-close h = stands Close nothing h refl h.sound.right.1

  -- a faulty token, where nothing stands before it that a quantifier could repeat
  pub from-fault : (t : Token) → At s at o (lex f k t) → (fault_of (lex f k t) ≡ 0 → ⊥) → from s at (state st al it o nothing) ≡ refused (fault_of (lex f k t)) at
  from-fault t h z =
      walk-on s at (state st al it o nothing) h.inside
      ∙ ap (follow s at) (next-bad at (drop at s) (state st al it o nothing) f k (fault_for f t) t h.is (fault-nothing st al it o (get_or s at 0) f t h.sound.right) z)

module _ (s : List ℕ) (at : ℕ) (st : List Frame) (al it : List Syntax) (o : Options) (x : Syntax) (n j f k : ℕ) (h : At s at o (lex f k (Repeat n j))) where
  pub from-repeat : f ≡ 0 → from s at (state st al (x ∷ it) o single) ≡ from s (at + k) (state st al (repeat x n (extra_of j) ∷ it) o nothing)
  unfolding act repeating
  from-repeat z =
      let b = fits s at st al it o f k (Repeat n j) h z in
      stands s at st al (x ∷ it) o f k (Repeat n j) single h refl z
      ∙ skipped s at k (state st al (repeat x n (extra_of j) ∷ it) o repeated) b.0 b.1
      ∙ free-repeated s (at + k) st al (repeat x n (extra_of j) ∷ it) o

  pub from-repeat-fault : (f ≡ 0 → ⊥) → from s at (state st al (x ∷ it) o single) ≡ refused f at
  from-repeat-fault z =
      walk-on s at (state st al (x ∷ it) o single) h.inside
      ∙ ap (follow s at) (next-bad at (drop at s) (state st al (x ∷ it) o single) f k f (Repeat n j) h.is (lower-none f) z)

-- ---- where a branch or a group ends

-- the tokens that end a branch
abbrev pub Ends : Token → Type 0
Ends Finish = Unit {0}
Ends Bar = Unit {0}
Ends Close = Unit {0}
Ends Class = ⊥
Ends (One a) = ⊥
Ends (Open o) = ⊥
Ends (Set o) = ⊥
Ends (Note o) = ⊥
Ends Unclosed = ⊥
Ends (Repeat n j) = ⊥
Ends Bad = ⊥

pub branch-bar : (s : List ℕ) (st : List Frame) (al : List Syntax) (t : Syntax) (o : Options) (e : ℕ) → get_or s e 0 ≡ 124 → branch_ends s st al t o e ≡ from s (e + 1) (state st (t ∷ al) [] o nothing)
unfolding branch_ends
branch-bar s st al t o e h = rw (eq-eqb (get_or s e 0) 124 h)

pub branch-last : (s : List ℕ) (st : List Frame) (al : List Syntax) (t : Syntax) (o : Options) (e : ℕ) → (get_or s e 0 ≡ 124 → ⊥) → branch_ends s st al t o e ≡ group_ends s st (chosen al t) e
unfolding branch_ends
branch-last s st al t o e h = rw (ne_eqb (get_or s e 0) 124 h)

pub group-closes : (s : List ℕ) (st : List Frame) (t : Syntax) (e : ℕ) → e < length s → group_ends s st t e ≡ follow s e (closing e st t)
unfolding group_ends
group-closes s st t e h = rw (lt-ltb e (length s) h)

pub group_open : (s : List ℕ) (st : List Frame) (t : Syntax) (e : ℕ) → length s ≤ e → group_ends s st t e ≡ ended e t st
unfolding group_ends
group_open s st t e h = rw (le-ltb e (length s) h)

pub past : (s : List ℕ) (e : ℕ) → length s ≤ e → get_or s e 0 ≡ 124 → ⊥
past s e h z = let y : get_or s e 0 ≡ 0 = get_or-eq_default s 0 h in omega arith

module _ (s : List ℕ) (at : ℕ) (st : List Frame) (al it : List Syntax) (o : Options) (f k : ℕ) where
  pub from_end : (t : Token) → lexeme_of o (drop at s) ≡ lex f k t → Ends t → from s at (state st al it o nothing) ≡ branch_ends s st al (chained it empty) o at
  from_end Finish e u =
      ⊎_elim (λ lt. absurd (at-inside s at o (lex f k Finish) e lt).sound.right)
      (λ le. walk_end s at st al it o nothing le ∙ sym (branch-last s st al (chained it empty) o at (past s at le) ∙ group_open s st (chosen al (chained it empty)) at le))
      (by-lt at (length s))
  from_end Bar e u =
      let a = at-token s at o (lex f k Bar) Bar e refl refl in
      from-bar s at st al it o f k a ∙ sym (branch-bar s st al (chained it empty) o at a.sound.right.0)
  from_end Close e u =
      let a = at-token s at o (lex f k Close) Close e refl refl in
      from-close s at st al it o f k a
      ∙ sym (branch-last s st al (chained it empty) o at (λ z. omega (arith, a.sound.right.0)) ∙ group-closes s st (chosen al (chained it empty)) at a.inside)
  from_end Class e u = absurd u
  from_end (One a) e u = absurd u
  from_end (Open i) e u = absurd u
  from_end (Set i) e u = absurd u
  from_end (Note i) e u = absurd u
  from_end Unclosed e u = absurd u
  from_end (Repeat n j) e u = absurd u
  from_end Bad e u = absurd u
