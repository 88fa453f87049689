-- Where tokens and members stand: the walk from the pattern's start is the walk from there, a class
-- is what its members from there on make of it, no place is past the pattern's end, and a token
-- that opens or closes something has no fault of its own. Assumes nothing.
use mathlib.Core.Path.{◌≡◌, refl, sym, ap, ◌∙◌}
use mathlib.Core.Bool.{Bool, true, false, cond, not, ◌&&◌, and-eq-true_iff}
use mathlib.Core.List.{List, [], ◌∷◌}
use mathlib.Core.Logic.{⊎_elim}
use Prim.Native.Nat.{ℕ, suc, ◌+◌, ◌≤◌, ◌<◌}
use native.Mathlib.Omega.{arith}
use borrow.Author.Tests.{eqb-true, eqb-false, eq-eqb, ne_eqb, ltb-true, ltb-false, lt-ltb, le-ltb}
use lib.Dec.{eqb, leb, ltb}
use lib.ListN.{length, get_or, take, drop, length-drop}
use lib.Seq.{drop-drop}
use Rattle.tokens.specs.declared.Options.{Options}
use Rattle.atoms.specs.declared.Gap.{Gap}
use Rattle.classes.specs.Class.{Member}
use Rattle.atoms.specs.declared.Atom.TheVariants.{Byte}
use Rattle.atoms.specs.Escape.{Part}
use Rattle.tokens.specs.Quantifier.{Form}
use Rattle.tokens.specs.Lexeme.{Token}
use Rattle.tokens.specs.Lexeme.{Finish, Bar, Close, Class, One, Open, Set, Note, Unclosed, Repeat, Bad}
use Rattle.tokens.specs.Lexeme.{Lexeme}
use Rattle.atoms.specs.Fault.{lower}
use Rattle.atoms.specs.Raw.{with_raw}
use Rattle.atoms.specs.Quote.{is_mark, gap_of}
use Rattle.classes.specs.Class.{member_at, joined, members_of, class_of}
use Rattle.tokens.specs.Option.{plain, with_caseless, with_dot_all, with_lines, letters_of, before_close, comment_of, opening_of}
use Rattle.tokens.specs.Quantifier.{form_of, marked, quantifier_of}
use Rattle.tokens.specs.Token.{escaped, unquoted_of, spelled_of, faulty_as, lexeme_of}
use Rattle.sets.specs.Set.{empty_set}
use Rattle.nodes.specs.Nodes.{Syntax}
use Rattle.pattern.specs.Walk.{Frame, State, Next, stop, go, group_of, deepest, closing, opening, act, context, next, walk, begin}
use Rattle.pattern.specs.Reasons.{among, open_comment, plainly, row12, row23, Stands, InClass, members_at, token_at}
use Rattle.pattern.specs.Invariants.{from, follow}
use Rattle.atoms.proofs.Raws.{raw-absent}
use Rattle.atoms.proofs.Sizes.{byte-within}
use Rattle.tokens.proofs.Lengths.{lexeme-fits}
use Rattle.tokens.proofs.Lexemes.{lexeme-end}
use Rattle.atoms.proofs.Gaps.{mark-inside}
use Rattle.classes.proofs.Ranges.{member-advances, members-mark, members-more}
use Rattle.pattern.proofs.Base.{either, split, by-lt, true-not-false, byte-not}
use Rattle.pattern.proofs.Sets.{class-closed}
use Rattle.pattern.proofs.Rows.{raw_same, raw-clean}
use Rattle.pattern.proofs.Steps.{walk-on, walk-skip}

-- ---- the walk

-- a token stays inside the pattern
FitsIn : ℕ → Next → Type 0
FitsIn left (stop number place) = Unit {0}
FitsIn left (go k m) = 1 + k ≤ left

closing-fits : (left at : ℕ) (st : List Frame) (t : Syntax) → 1 ≤ left → FitsIn left (closing at st t)
unfolding FitsIn closing
closing-fits left at [] t h = tt
closing-fits left at (f ∷ fs) t h = h

act-fits : (at : ℕ) (v : List ℕ) (m : State) (size : ℕ) (t : Token) → 1 ≤ length v → size ≤ length v → FitsIn (length v) (act at v m size t)
unfolding FitsIn act opening
act-fits at v m size Finish h k = h
act-fits at v m size Bar h k = h
act-fits at v m size Close h k = closing-fits (length v) at m.stack (group_of m) h
act-fits at v m size Class h k =
    let c = class_of m.options.caseless (drop 1 v) (at + 1) in
    either (FitsIn (length v)) (eqb c.number 0)
    (λ e.
    let d = class-closed m.options.caseless (drop 1 v) (at + 1) (eqb-true c.number 0 e) in
    omega (arith, d.inside, d.on, length-drop 1 v))
    (λ e. tt)
act-fits at v m size (One a) h k = omega arith
act-fits at v m size (Open i) h k = either (FitsIn (length v)) (leb deepest (length m.stack)) (λ e. tt) (λ e. omega arith)
act-fits at v m size (Set i) h k = omega arith
act-fits at v m size (Note i) h k = omega arith
act-fits at v m size Unclosed h k = tt
act-fits at v m size (Repeat n j) h k = omega arith
act-fits at v m size Bad h k = h

next_fits : (at : ℕ) (v : List ℕ) (m : State) → 1 ≤ length v → FitsIn (length v) (next at v m)
unfolding next FitsIn
next_fits at v m h =
    let l : Lexeme = lexeme_of m.options v in
    either (FitsIn (length v)) (eqb (lower (context m l.token) l.fault) 0) (λ e. act-fits at v m l.size l.token h (lexeme-fits m.options v)) (λ e. tt)

step_fits : (s : List ℕ) (at k : ℕ) (m n : State) → at < length s → next at (drop at s) m ≡ go k n → at + 1 + k ≤ length s
unfolding FitsIn
step_fits s at k m n h e =
    let f : 1 + k ≤ length (drop at s) = rw e at (next_fits at (drop at s) m (omega (arith, length-drop at s))) in
    omega (arith, length-drop at s)

-- ---- the walk from where a token stands

pub step-walk : (s : List ℕ) (at k : ℕ) (m n : State) → at < length s → next at (drop at s) m ≡ go k n → from s at m ≡ from s (at + 1 + k) n
step-walk s at k m n h e = walk-on s at m h ∙ ap (follow s at) e ∙ walk-skip k s (at + 1) n (step_fits s at k m n h e)

pub stands-walk : (s : List ℕ) (o : Options) (at : ℕ) (m : State) → Stands s o at m → walk s 0 0 (begin o) ≡ from s at m
stands-walk s o at m Stands.begins = refl
stands-walk s o at m (Stands.onward p k n q S h e) = stands-walk s o p n S ∙ step-walk s p k n m h e

pub stands-fits : (s : List ℕ) (o : Options) (at : ℕ) (m : State) → Stands s o at m → at ≤ length s
stands-fits s o at m Stands.begins = omega arith
stands-fits s o at m (Stands.onward p k n q S h e) = step_fits s p k n m h e

-- a token other than the end stands inside the pattern
pub inside-token : (s : List ℕ) (at : ℕ) (m : State) (t : Token) → token_at s at m ≡ t → (Finish ≡ t → ⊥) → at < length s
inside-token s at m t e h =
    ⊎_elim (λ lt. lt) (λ ge. absurd (h (sym (ap (λ (l : Lexeme). l.token) (lexeme-end s at m.options ge)) ∙ e))) (by-lt at (length s))

-- ---- the members of a class

module _ (caseless : Bool) (s : List ℕ) (from : ℕ) where
  -- where a member stands, the class is what the members from there on make of it
  pub record Onward (p : ℕ) (is_first quoted : Bool) : Type 0 where
    pub negated : Bool
    pub set : List ℕ
    pub same : class_of caseless (drop from s) from ≡ members_of caseless negated is_first quoted set 0 (drop p s) p

  pub begin-onward : Onward (members_at s from) true false
  unfolding class_of
  begin-onward =
      let g : Gap = gap_of false (drop from s) in
      split (eqb (get_or (drop from s) g.size 0) 94 && not g.quoted)
      (λ e. rw e (record { negated = true; set = empty_set; same = rw (e, drop-drop (g.size + 1) from s) }))
      (λ e. rw e (record { negated = false; set = empty_set; same = rw e }))

  pub class-onward : (p : ℕ) (is_first quoted : Bool) → InClass s caseless from p is_first quoted → Onward p is_first quoted
  class-onward p is_first quoted InClass.begins = begin-onward
  class-onward p is_first quoted (InClass.mark at b q i k) =
      let O = class-onward at b q i in
      record { negated = O.negated; set = O.set; same = O.same ∙ members-mark caseless O.negated b q O.set s at k }
  class-onward p is_first quoted (InClass.onward at b q i l k c f) =
      let m : Member = member_at caseless q (drop at s) in
      let O = class-onward at b q i in
      record {
        negated = O.negated;
        set = joined O.set m.low m.high;
        same = O.same ∙ members-more caseless O.negated b q O.set s at l k m c refl f;
      }

  begin-fits : from ≤ length s → members_at s from ≤ length s
  begin-fits h =
      let v : List ℕ = drop from s in
      let g : Gap = gap_of false v in
      either (λ (p : ℕ). p ≤ length s) (eqb (get_or v g.size 0) 94 && not g.quoted)
      (λ e. omega (arith, byte-within v g.size 93 ((and-eq-true_iff (eqb (get_or v g.size 0) 94) (not g.quoted)).0 e).0, length-drop from s))
      (λ e. h)

  pub class-fits : (p : ℕ) (is_first quoted : Bool) → InClass s caseless from p is_first quoted → from ≤ length s → p ≤ length s
  class-fits p is_first quoted InClass.begins h = begin-fits h
  class-fits p is_first quoted (InClass.mark at b q i k) h = mark-inside s at q k
  class-fits p is_first quoted (InClass.onward at b q i l k c f) h = (member-advances s at caseless q (member_at caseless q (drop at s)) l refl f).1

-- ---- tokens without a fault of their own, and open comments

-- a comment is closed where a `)` is among the bytes after `(?#`
comment-closes : (v : List ℕ) → ltb (before_close v) (length v) ≡ among 41 v
unfolding before_close
comment-closes [] = refl
comment-closes (c ∷ v) =
    split (eqb c 41)
    (λ e. rw (e, eq-eqb 41 c (sym (eqb-true c 41 e)), lt-ltb 0 (suc (length v)) (omega arith)))
    (λ e. rw (e, ne_eqb 41 c (λ z. eqb-false c 41 e (sym z)), ← comment-closes v)
    (split (ltb (before_close v) (length v))
    (λ f. rw (f, lt-ltb (suc (before_close v)) (suc (length v)) (omega (arith, ltb-true (before_close v) (length v) f))))
    (λ f. rw (f, le-ltb (suc (before_close v)) (suc (length v)) (omega (arith, ltb-false (before_close v) (length v) f))))))

-- tokens that have no fault, and P for an open comment
Quiet : Type 0 → Token → ℕ → Type 0
Quiet P Finish f = Unit {0}
Quiet P Bar f = Unit {0}
Quiet P Close f = f ≡ 0
Quiet P Class f = f ≡ 0
Quiet P (One a) f = Unit {0}
Quiet P (Open i) f = f ≡ 0
Quiet P (Set i) f = Unit {0}
Quiet P (Note i) f = Unit {0}
Quiet P Unclosed f = P
Quiet P (Repeat n j) f = Unit {0}
Quiet P Bad f = Unit {0}

module _ (P : Type 0) where
  abbrev QuietLexeme : Lexeme → Type 0
  QuietLexeme l = Quiet P l.token l.fault

  escaped-quiet : (p : Part) → QuietLexeme (escaped p)
  unfolding escaped Quiet
  escaped-quiet p = either QuietLexeme (eqb p.fault 0) (λ e. tt) (λ e. tt)

  letters-quiet : (v : List ℕ) (on any : Bool) (o : Options) (size : ℕ) → QuietLexeme (letters_of on any o size v)
  unfolding letters_of Quiet
  letters-quiet [] on any o size = tt
  letters-quiet (c ∷ v) on any o size =
      either QuietLexeme (eqb c 105) (λ e. letters-quiet v on true (with_caseless on o) (size + 1))
      (λ e. either QuietLexeme (eqb c 115) (λ f. letters-quiet v on true (with_dot_all on o) (size + 1))
      (λ f. either QuietLexeme (eqb c 109) (λ k. letters-quiet v on true (with_lines on o) (size + 1))
      (λ k. either QuietLexeme (eqb c 45) (λ g. either QuietLexeme on (λ h. letters-quiet v false any o (size + 1)) (λ h. tt))
      (λ g. either QuietLexeme (eqb c 41) (λ h. either QuietLexeme any (λ i. tt) (λ i. tt))
      (λ h. either QuietLexeme (eqb c 58) (λ i. either QuietLexeme any (λ j. refl) (λ j. tt)) (λ i. tt))))))

  comment-quiet : (o : Options) (v : List ℕ) → (among 41 v ≡ false → P) → QuietLexeme (comment_of o v)
  unfolding comment_of Quiet
  comment-quiet o v h = either QuietLexeme (ltb (before_close v) (length v)) (λ e. tt) (λ e. h (sym (comment-closes v) ∙ e))

  opening-quiet : (o : Options) (v : List ℕ) → (open_comment v ≡ true → P) → QuietLexeme (opening_of o v)
  unfolding opening_of open_comment Quiet
  opening-quiet o v h =
      either QuietLexeme (eqb (get_or v 0 0) 42) (λ e. tt)
      (λ e. either QuietLexeme (eqb (get_or v 0 0) 63)
      (λ f. either QuietLexeme (eqb (get_or v 1 0) 58) (λ g. refl)
      (λ g. either QuietLexeme (eqb (get_or v 1 0) 35) (λ k. comment-quiet o (drop 2 v) (λ z. h (rw (f, k, z)))) (λ k. letters-quiet (drop 1 v) true false o 2)))
      (λ f. refl))

  marked-quiet : (q : Form) (m : ℕ) → QuietLexeme (marked q m)
  unfolding marked Quiet
  marked-quiet q m = either QuietLexeme (eqb (lower q.fault (cond (eqb m 43) 14 0)) 0) (λ e. tt) (λ e. tt)

  unquoted-quiet : (o : Options) (c : ℕ) (v : List ℕ) → (row12 (c ∷ v) ≡ true → P) → QuietLexeme (unquoted_of o c v)
  unfolding unquoted_of quantifier_of row12 Quiet
  unquoted-quiet o c v h =
      either QuietLexeme (eqb c 92) (λ e. escaped-quiet _)
      (λ e. either QuietLexeme (eqb c 91) (λ e. refl)
      (λ e. either QuietLexeme (eqb c 40) (λ e. opening-quiet o v (λ z. h (rw (e, z))))
      (λ e. either QuietLexeme (eqb c 41) (λ e. refl)
      (λ e. either QuietLexeme (eqb c 124) (λ e. tt)
      (λ e. either QuietLexeme (eqb c 46) (λ e. tt)
      (λ e. either QuietLexeme (eqb c 94) (λ e. tt)
      (λ e. either QuietLexeme (eqb c 36) (λ e. tt)
      (λ e. either QuietLexeme (form_of (c ∷ v)).is (λ e. marked-quiet (form_of (c ∷ v)) _) (λ e. tt)))))))))

-- an open comment stands where no quote is open, its row holds, and it has no raw byte
abbrev OpenComment : Options → List ℕ → Type 0
OpenComment o v = (plainly o.quoted (row12 v) ≡ true) × (row23 (spelled_of o v).size v ≡ false)

spelled-quiet : (P : Type 0) (o : Options) (v : List ℕ) → (plainly o.quoted (row12 v) ≡ true → P) → QuietLexeme P (spelled_of o v)
unfolding spelled_of Quiet
spelled-quiet P o [] h = tt
spelled-quiet P o (c ∷ v) h =
    let Q : Lexeme → Type 0 = QuietLexeme P in
    either Q (is_mark o.quoted c (get_or v 0 0)) (λ e. tt) (λ e. either Q o.quoted (λ f. tt) (λ f. unquoted-quiet P o c v (λ z. h (rw (f, z)))))

faulty-as-quiet : (P : Type 0) (f : ℕ) (t : Token) → QuietLexeme P (faulty_as f t)
unfolding Quiet
faulty-as-quiet P f Finish = tt
faulty-as-quiet P f Bar = tt
faulty-as-quiet P f Close = tt
faulty-as-quiet P f Class = tt
faulty-as-quiet P f (One a) = tt
faulty-as-quiet P f (Open i) = tt
faulty-as-quiet P f (Set i) = tt
faulty-as-quiet P f (Note i) = tt
faulty-as-quiet P f Unclosed = tt
faulty-as-quiet P f (Repeat n j) = tt
faulty-as-quiet P f Bad = tt

lexeme-quiet : (o : Options) (v : List ℕ) → QuietLexeme (OpenComment o v) (lexeme_of o v)
unfolding lexeme_of row23
lexeme-quiet o v =
    let l : Lexeme = spelled_of o v in
    let f : ℕ = with_raw l.fault l.size v in
    let Q : Lexeme → Type 0 = QuietLexeme (OpenComment o v) in
    either Q (eqb f 0)
    (λ e. spelled-quiet (OpenComment o v) o v (λ z. (z, sym (raw_same (take l.size v)) ∙ raw-absent l.fault l.size v (eqb-true f 0 e))))
    (λ e. faulty-as-quiet (OpenComment o v) f l.token)

module _ (o : Options) (v : List ℕ) where
  pub close-quiet : (lexeme_of o v).token ≡ Close → (lexeme_of o v).fault ≡ 0
  unfolding Quiet
  close-quiet e = rw e at (lexeme-quiet o v)

  pub class-quiet : (lexeme_of o v).token ≡ Class → (lexeme_of o v).fault ≡ 0
  unfolding Quiet
  class-quiet e = rw e at (lexeme-quiet o v)

  pub open-quiet : (i : Options) → (lexeme_of o v).token ≡ Open i → (lexeme_of o v).fault ≡ 0
  unfolding Quiet
  open-quiet i e = rw e at (lexeme-quiet o v)

  pub unclosed-row : (lexeme_of o v).token ≡ Unclosed → OpenComment o v
  unfolding Quiet
  unclosed-row e = rw e at (lexeme-quiet o v)

-- and where that row holds, an open comment stands
comment-opening : (o : Options) (v : List ℕ) → open_comment v ≡ true → opening_of o v ≡ plain (3 + before_close (drop 2 v)) Unclosed
unfolding open_comment opening_of comment_of
comment-opening o v e =
    let a = (and-eq-true_iff (eqb (get_or v 0 0) 63) (eqb (get_or v 1 0) 35 && not (among 41 (drop 2 v)))).0 e in
    let b = (and-eq-true_iff (eqb (get_or v 1 0) 35) (not (among 41 (drop 2 v)))).0 a.1 in
    rw (byte-not (get_or v 0 0) 63 42 a.0 refl, a.0, byte-not (get_or v 1 0) 35 58 b.0 refl, b.0, comment-closes (drop 2 v), not-true (among 41 (drop 2 v)) b.1)
  where
    not-true : (b : Bool) → not b ≡ true → b ≡ false
    not-true true h = sym h
    not-true false h = refl

comment-token : (o : Options) (w : List ℕ) → open_comment w ≡ true → not o.quoted ≡ true → spelled_of o (40 ∷ w) ≡ plain (3 + before_close (drop 2 w)) Unclosed
unfolding spelled_of unquoted_of is_mark
comment-token o w h q = unquoted o.quoted q
  where
    unquoted : (b : Bool) → not b ≡ true → cond b (plain 1 (One (Byte 40))) (opening_of o w) ≡ plain (3 + before_close (drop 2 w)) Unclosed
    unquoted true z = true-not-false false z refl
    unquoted false z = comment-opening o w h

comment-spelled : (o : Options) (v : List ℕ) → plainly o.quoted (row12 v) ≡ true → ((spelled_of o v).token ≡ Unclosed) × ((spelled_of o v).fault ≡ 0)
unfolding row12
comment-spelled o v e =
    let a = (and-eq-true_iff (not o.quoted) (row12 v)).0 e in
    by_bytes v a.1 a.0
  where
    by_bytes : (w : List ℕ) → (eqb (get_or w 0 0) 40 && open_comment (drop 1 w)) ≡ true → not o.quoted ≡ true → ((spelled_of o w).token ≡ Unclosed) × ((spelled_of o w).fault ≡ 0)
    by_bytes [] h q = true-not-false false h refl
    by_bytes (c ∷ w) h q =
        let b = (and-eq-true_iff (eqb c 40) (open_comment w)).0 h in
        let l = ap (λ (k : ℕ). spelled_of o (k ∷ w)) (eqb-true c 40 b.0) ∙ comment-token o w b.1 q in
        (ap (λ (x : Lexeme). x.token) l, ap (λ (x : Lexeme). x.fault) l)

pub row-unclosed : (o : Options) (v : List ℕ) → OpenComment o v → ((lexeme_of o v).token ≡ Unclosed) × ((lexeme_of o v).fault ≡ 0)
row-unclosed o v e =
    let c = comment-spelled o v e.0 in
    let l = raw-clean o v c.1 e.1 in
    (ap (λ (x : Lexeme). x.token) l ∙ c.0, ap (λ (x : Lexeme). x.fault) l ∙ c.1)
