-- A pattern of at most 1,024 bytes is refused with a number and place exactly if they are those of
-- the reasons 6 to 16 and 23 that decide, and accepted exactly if no reason holds. Where a token
-- stands, the walk from the pattern's start is the walk from there. There it goes on or stops with
-- the lowest row that holds of the token; so a refusal has its reason, and a reason refuses there,
-- by its own number or a lower one. Assumes nothing.
use mathlib.Core.Path.{◌≡◌, refl, sym, ap, ap₂, subst, ◌∙◌}
use mathlib.Core.Bool.{Bool, true, false, cond, or-false}
use mathlib.Core.List.{List, [], ◌∷◌}
use mathlib.Core.Logic.{⊎_elim, ◌↔◌}
use Prim.Native.Nat.{ℕ, zero, suc, ◌+◌, ◌≤◌, ◌<◌}
use native.Mathlib.Omega.{arith}
use borrow.Author.Tests.{eqb-false, leb-true, ltb-true, ne_eqb, le-leb, lt-ltb, le-ltb}
use lib.Dec.{T, eqb, leb, ltb}
use lib.ListN.{length, get_or, drop, length-drop}
use lib.Seq.{get_or-drop, drop-drop}
use Rattle.classes.specs.Class as classes
use Rattle.tokens.specs.declared.Options.{Options}
use Rattle.classes.specs.Class.{Member}
use Rattle.tokens.specs.Lexeme.{Token}
use Rattle.tokens.specs.Lexeme.{Finish, Bar, Close, Class, One, Open, Set, Note, Unclosed, Repeat, Bad}
use Rattle.tokens.specs.Lexeme.{Lexeme}
use Rattle.atoms.specs.Fault.{lower}
use Rattle.atoms.specs.Quote.{opens_quote}
use Rattle.classes.specs.Class.{spelled_at, member_at, joined, members_of, class_of}
use Rattle.tokens.specs.Quantifier.{form_of}
use Rattle.tokens.specs.Token.{spelled_of, lexeme_of}
use Rattle.meaning.specs.Form.{write, positions}
use Rattle.meaning.specs.Count.{limit, saturating, nullable, MatchesEmpty}
use Rattle.meaning.proofs.Logic.{true-T}
use Rattle.meaning.proofs.Counted.{above-limit, matches-empty}
use Rattle.nodes.specs.Nodes.{Syntax}
use Rattle.pattern.specs.Walk.{Target, nothing, single, repeated, Frame, State, Read, tree, refused, Next, stop, go, group_of, deepest, target_fault, closing, opening, act, context, next, walk, begin}
use Rattle.pattern.specs.Read.{longest, judged, read_of, limited_read, answer_of}
use Rattle.pattern.specs.Reasons.{plainly, row6, row7, row9, row10, row11, row12, row14, row23, member_row14, of_end, raw_token, Stands, InClass, members_at, mark_at, closes, token_at, ClassAt, MemberAt, Finished, Reason, Decides}
use Rattle.pattern.specs.Invariants.{from, follow, ended}
use Rattle.atoms.proofs.Suffixes.{first}
use Rattle.tokens.proofs.Lexemes.{lexeme-end}
use Rattle.classes.proofs.Ranges.{member-advances, members-end, members-mark, members-close, members-fault, members-more}
use Rattle.pattern.proofs.Base.{either, split, true-not-false, by-lt, by-eq}
use Rattle.pattern.proofs.Steps.{walk_end, walk-on}
use Rattle.pattern.proofs.Answers.{within, accepted-tree}
use Rattle.pattern.proofs.Lowest.{lowest, both, last_row, by_row, AtMost, most6, most7, most9, most10, most11, most14, most23}
use Rattle.pattern.proofs.Rows.{own_fault, spelled-fault, lexeme-fault, member_fault, member-at-fault}
use Rattle.pattern.proofs.Standing.{step-walk, stands-walk, stands-fits, inside-token, begin-onward, class-onward, class-fits, close-quiet, class-quiet, open-quiet, unclosed-row, row-unclosed}

is_T : (b : Bool) → b ≡ true → T b
is_T true e = tt
is_T false e = true-not-false false e refl

none : {A : Type 0} → false ≡ true → A
none e = true-not-false false e refl

-- ---- the fault of a token, with that of what stands before it

abbrev fault_at : State → List ℕ → ℕ
fault_at m v = lower (context m (lexeme_of m.options v).token) (lexeme_of m.options v).fault

abbrev token_fault : State → List ℕ → ℕ
token_fault m v =
    let q : Bool = m.options.quoted in
    lowest (plainly q (row6 v)) (plainly q (row7 v)) false (row10 m.target (lexeme_of m.options v).token) (plainly q (row11 v)) (plainly q (row14 v)) (row23 (spelled_of m.options v).size v)

context-fault : (m : State) (t : Token) → context m t ≡ cond (row10 m.target t) 10 0
context-fault m Finish = refl
context-fault m Bar = refl
context-fault m Close = refl
context-fault m Class = refl
context-fault m (One a) = refl
context-fault m (Open i) = refl
context-fault m (Set i) = refl
context-fault m (Note i) = refl
context-fault m Unclosed = refl
context-fault m (Repeat n j) = by-target m.target
  where
    by-target : (t : Target) → target_fault t ≡ cond (row10 t (Repeat n j)) 10 0
    by-target nothing = refl
    by-target single = refl
    by-target repeated = refl
context-fault m Bad = refl

no_row : (quoted : Bool) → 0 ≡ own_fault quoted []
unfolding row6 row7 row11 row14 form_of
no_row true = refl
no_row false = refl

own-fault : (o : Options) (v : List ℕ) → (spelled_of o v).fault ≡ own_fault o.quoted v
unfolding spelled_of
own-fault o [] = no_row o.quoted
own-fault o (c ∷ v) = spelled-fault o v c

token-fault : (m : State) (v : List ℕ) → fault_at m v ≡ token_fault m v
token-fault m v =
    let t : Token = (lexeme_of m.options v).token in
    let q : Bool = m.options.quoted in
    let ten : Bool = row10 m.target t in
    let raw : Bool = row23 (spelled_of m.options v).size v in
    ap₂ lower (context-fault m t)
    (lexeme-fault m.options v
    ∙ ap (λ (f : ℕ). lower f (cond raw 23 0)) (own-fault m.options v)
    ∙ last_row (plainly q (row6 v)) (plainly q (row7 v)) false false (plainly q (row11 v)) (plainly q (row14 v)) raw)
    ∙ both false false false ten false false false (plainly q (row6 v)) (plainly q (row7 v)) false false (plainly q (row11 v)) (plainly q (row14 v)) raw
    ∙ ap (λ (b : Bool). lowest (plainly q (row6 v)) (plainly q (row7 v)) false b (plainly q (row11 v)) (plainly q (row14 v)) raw) (or-false ten)

-- a raw byte is in a member or range
abbrev raw_member : (caseless quoted : Bool) → List ℕ → Bool
raw_member caseless quoted v = row23 (spelled_at caseless quoted v).size v

-- the fault of a member or of a range where it stands
member-rows : (s : List ℕ) (o : Options) (caseless quoted : Bool) (p : ℕ) → MemberAt s o caseless quoted p → (member_at caseless quoted (drop p s)).fault ≡ member_fault caseless quoted (drop p s) (raw_member caseless quoted (drop p s))
member-rows s o caseless quoted p M =
    let long : 0 < length (drop p s) = omega (arith, length-drop p s, M.inside) in
    member-at-fault caseless quoted (drop p s) long (rw (first s p, get_or-drop p s 1 0) M.unmarked)

-- ---- a refusal has its reason

module _ (s : List ℕ) (o : Options) where
  -- a fault f at place p has its reason
  abbrev Explained : ℕ → ℕ → Type 0
  Explained p f = (f ≡ 0 → ⊥) → Reason s o f p

  member-reason : (caseless quoted : Bool) (p : ℕ) → MemberAt s o caseless quoted p → Explained p (member_at caseless quoted (drop p s)).fault
  member-reason caseless quoted p M =
      let v : List ℕ = drop p s in
      subst (Explained p) (sym (member-rows s o caseless quoted p M))
      (by_row (Explained p) (of_end row6 caseless quoted v) (of_end row7 caseless quoted v) (row9 caseless quoted v) false false (of_end member_row14 caseless quoted v) (raw_member caseless quoted v)
      (λ e z. Reason.member_cut p caseless quoted M (is_T _ e))
      (λ e z. Reason.member_large p caseless quoted M (is_T _ e))
      (λ e z. Reason.bad_range p caseless quoted M (is_T _ e))
      (λ e. none e)
      (λ e. none e)
      (λ e z. Reason.member_unsupported p caseless quoted M (is_T _ e))
      (λ e z. Reason.member_raw p caseless quoted M (is_T _ e))
      (λ z. absurd (z refl)))

  abbrev ClassExplained : classes.Class → Type 0
  ClassExplained c = Explained c.place c.number

  module _ (caseless : Bool) (bracket : ℕ) (C : ClassAt s o caseless bracket) (inside : bracket + 1 ≤ length s) where
    open-reason : (p : ℕ) (b q : Bool) → InClass s caseless (bracket + 1) p b q → length s ≤ p → Reason s o 8 p
    open-reason p b q i h =
        let e : length s ≡ p = omega (arith, class-fits caseless s (bracket + 1) p b q i inside) in
        subst (Reason s o 8) e (Reason.class_open p bracket caseless b q C i h)

    members-reason : (d p : ℕ) (b q negated : Bool) (set : List ℕ) → length s ≤ p + d → InClass s caseless (bracket + 1) p b q
        → ClassExplained (members_of caseless negated b q set 0 (drop p s) p)
    members-reason zero p b q negated set h i =
        let end : length s ≤ p = omega arith in
        subst ClassExplained (sym (members-end caseless negated b q set s p end)) (λ z. open-reason p b q i end)
    members-reason (suc d) p b q negated set h i =
        let m : Member = member_at caseless q (drop p s) in
        ⊎_elim
        (λ lt. split (mark_at s p q)
        (λ k. subst ClassExplained (sym (members-mark caseless negated b q set s p k))
        (members-reason d (p + 2) b (opens_quote (get_or s (p + 1) 0)) negated set (omega arith) (InClass.mark p b q i k)))
        (λ k. split (closes s p b q)
        (λ e. subst ClassExplained (sym (members-close caseless negated b q set s p lt k e)) (λ z. absurd (z refl)))
        (λ e. ⊎_elim
        (λ z.
        let a = member-advances s p caseless q m lt refl z in
        subst ClassExplained (sym (members-more caseless negated b q set s p lt k m e refl z))
        (members-reason d (p + m.size) false m.quoted negated (joined set m.low m.high) (omega (arith, a.0)) (InClass.onward p b q i lt k e z)))
        (λ z.
        subst ClassExplained (sym (members-fault caseless negated b q set s p lt k m e refl z))
        (member-reason caseless q p (record { bracket = bracket; is_first = b; class = C; stands = i; inside = lt; unmarked = k; member = e })))
        (by-eq m.fault 0))))
        (λ ge. subst ClassExplained (sym (members-end caseless negated b q set s p ge)) (λ z. open-reason p b q i ge))
        (by-lt p (length s))

    class-reason : ClassExplained (class_of caseless (drop (bracket + 1) s) (bracket + 1))
    class-reason =
        let O = begin-onward caseless s (bracket + 1) in
        subst ClassExplained (sym O.same)
        (members-reason (length s) (members_at s (bracket + 1)) true false O.negated O.set (omega arith) InClass.begins)

  StopExplained : Next → Type 0
  StopExplained (stop number place) = Reason s o number place
  StopExplained (go k m) = Unit {0}

  module _ (at : ℕ) (m : State) (S : Stands s o at m) where
    token-reason : Explained at (fault_at m (drop at s))
    token-reason =
        let v : List ℕ = drop at s in
        let q : Bool = m.options.quoted in
        subst (Explained at) (sym (token-fault m v))
        (by_row (Explained at) (plainly q (row6 v)) (plainly q (row7 v)) false (row10 m.target (token_at s at m)) (plainly q (row11 v)) (plainly q (row14 v)) (raw_token s at m)
        (λ e z. Reason.escape_cut at m S (is_T _ e))
        (λ e z. Reason.escape_large at m S (is_T _ e))
        (λ e. none e)
        (λ e z. Reason.nothing_repeated at m S (is_T _ e))
        (λ e z. Reason.bounds_are_bad at m S (is_T _ e))
        (λ e z. Reason.unsupported at m S (is_T _ e))
        (λ e z. Reason.raw_byte at m S (is_T _ e))
        (λ z. absurd (z refl)))

    closing-reason : (st : List Frame) → m.stack ≡ st → token_at s at m ≡ Close → StopExplained (closing at st (group_of m))
    unfolding closing StopExplained
    closing-reason [] z e = Reason.no_group at m S e z
    closing-reason (f ∷ fs) z e = tt

    act-reason : (size : ℕ) (t : Token) → token_at s at m ≡ t → StopExplained (act at (drop at s) m size t)
    unfolding act opening StopExplained
    act-reason size Finish e = tt
    act-reason size Bar e = tt
    act-reason size Close e = closing-reason m.stack refl e
    act-reason size Class e =
        let c = class_of m.options.caseless (drop (at + 1) s) (at + 1) in
        let inside : at + 1 ≤ length s = omega (arith, inside-token s at m Class e (λ y. let w : ◌≡◌ {A = ℕ} 0 1 = cc in omega arith)) in
        rw (drop-drop 1 at s)
        (either StopExplained (eqb c.number 0) (λ z. tt)
        (λ z. class-reason m.options.caseless at (record { state = m; stands = S; token = e; case = refl }) inside (eqb-false c.number 0 z)))
    act-reason size (One a) e = tt
    act-reason size (Open i) e =
        either StopExplained (leb deepest (length m.stack)) (λ z. Reason.too_deep at m i S e (leb-true deepest (length m.stack) z)) (λ z. tt)
    act-reason size (Set i) e = tt
    act-reason size (Note i) e = tt
    act-reason size Unclosed e =
        let p : length s ≡ at + length (drop at s) = omega (arith, stands-fits s o at m S, length-drop at s) in
        let row = unclosed-row m.options (drop at s) e in
        subst (Reason s o 12) p (Reason.comment_open at m S (is_T _ row.0) row.1)
    act-reason size (Repeat n j) e = tt
    act-reason size Bad e = tt

    next-reason : StopExplained (next at (drop at s) m)
    unfolding next StopExplained
    next-reason =
        let l : Lexeme = lexeme_of m.options (drop at s) in
        either StopExplained (eqb (fault_at m (drop at s)) 0)
        (λ e. act-reason l.size l.token refl)
        (λ e. token-reason (eqb-false (fault_at m (drop at s)) 0 e))

  -- the walk: a refusal has its reason, and a tree is the finished one
  Answered : Read → Type 0
  Answered (refused number place) = Reason s o number place
  Answered (tree t) = Finished s o t

  ended-answered : (at : ℕ) (m : State) (st : List Frame) → m.stack ≡ st → Stands s o at m → length s ≤ at → Answered (ended at (group_of m) st)
  unfolding Answered
  ended-answered at m [] z S h = record { place = at; state = m; stands = S; end = h; closed = z; tree = refl }
  ended-answered at m (f ∷ fs) z S h =
      let e : length s ≡ at = omega (arith, stands-fits s o at m S) in
      subst (Reason s o 12) e (Reason.group_open at m S h (rw z (omega arith)))

  end-answered : (at : ℕ) (m : State) → Stands s o at m → length s ≤ at → Answered (from s at m)
  end-answered at m S h =
      subst Answered (sym (walk_end s at m.stack m.branches m.items m.options m.target h)) (ended-answered at m m.stack refl S h)

  walk-answered : (d at : ℕ) (m : State) → length s ≤ at + d → Stands s o at m → Answered (from s at m)
  unfolding Answered StopExplained
  walk-answered zero at m h S = end-answered at m S (omega arith)
  walk-answered (suc d) at m h S =
      ⊎_elim
      (λ lt.
      by_next lt (next at (drop at s) m) refl (next-reason at m S)
      (λ k n e. walk-answered d (at + 1 + k) n (omega arith) (Stands.onward at k m n S lt e)))
      (λ ge. end-answered at m S ge)
      (by-lt at (length s))
    where
      by_next : at < length s → (x : Next) → next at (drop at s) m ≡ x → StopExplained x
          → ((k : ℕ) (n : State) → next at (drop at s) m ≡ go k n → Answered (from s (at + 1 + k) n)) → Answered (from s at m)
      by_next lt (stop number place) e x r = subst Answered (sym (walk-on s at m lt ∙ ap (follow s at) e)) x
      by_next lt (go k n) e x r = subst Answered (sym (step-walk s at k m n lt e)) (r k n e)

  -- the same of the whole reading
  Decided : Read → Type 0
  Decided (refused number place) = Reason s o number place
  Decided (tree t) = Unit {0}

  judged-decided : (r : Read) → Answered r → Decided (judged (length s) r)
  unfolding judged Answered Decided
  judged-decided (refused number place) a = a
  judged-decided (tree t) F =
      either Decided (nullable t) (λ e. Reason.matches_nothing t F ((matches-empty t).0 (is_T _ e)))
      (λ e. either Decided (ltb limit (saturating t)) (λ f. Reason.too_many t F ((above-limit t).0 (ltb-true limit (saturating t) f))) (λ f. tt))

-- ---- a reason refuses

-- refused at place q with the number n or a lower one
Refuses : (n q : ℕ) → Read → Type 0
Refuses n q (refused number place) = (number ≤ n) × (place ≡ q)
Refuses n q (tree t) = ⊥

Stops : (n q : ℕ) → Next → Type 0
Stops n q (stop number place) = (number ≤ n) × (place ≡ q)
Stops n q (go k m) = ⊥

follow-refuses : (s : List ℕ) (at n q : ℕ) (x : Next) → Stops n q x → Refuses n q (follow s at x)
unfolding Stops Refuses
follow-refuses s at n q (stop number place) h = h
follow-refuses s at n q (go k m) h = absurd h

judged-refuses : (len n q : ℕ) (r : Read) → Refuses n q r → Refuses n q (judged len r)
unfolding judged Refuses
judged-refuses len n q (refused number place) h = h
judged-refuses len n q (tree t) h = absurd h

module _ (s : List ℕ) (o : Options) where
  abbrev whole : Read
  whole = judged (length s) (walk s 0 0 (begin o))

  module _ (at : ℕ) (m : State) (S : Stands s o at m) where
    stops-refuses : (n q : ℕ) → at < length s → Stops n q (next at (drop at s) m) → Refuses n q whole
    stops-refuses n q h z =
        judged-refuses (length s) n q (walk s 0 0 (begin o))
        (subst (Refuses n q) (sym (stands-walk s o at m S ∙ walk-on s at m h)) (follow-refuses s at n q (next at (drop at s) m) z))

    -- at the end nothing is faulty
    end-fault : length s ≤ at → fault_at m (drop at s) ≡ 0
    unfolding lower
    end-fault h = rw (lexeme-end s at m.options h)

    fault-stops : (n : ℕ) → AtMost n (fault_at m (drop at s)) → Stops n at (next at (drop at s) m)
    unfolding next Stops
    fault-stops n f =
        let bad : fault_at m (drop at s) ≡ 0 → ⊥ = λ z. omega (arith, f.some) in
        rw (ne_eqb (fault_at m (drop at s)) 0 bad) (f.most, refl)

    rows-refuse : (n : ℕ) → AtMost n (token_fault m (drop at s)) → Refuses n at whole
    rows-refuse n r =
        let f : AtMost n (fault_at m (drop at s)) = subst (AtMost n) (sym (token-fault m (drop at s))) r in
        stops-refuses n at
        (⊎_elim (λ lt. lt) (λ ge. absurd (let z : fault_at m (drop at s) ≡ 0 = end-fault ge in omega (arith, f.some))) (by-lt at (length s)))
        (fault-stops n f)

    -- a token without a fault of its own, and nothing wrong before it, does what it does
    acts : (n q : ℕ) (t : Token) → token_at s at m ≡ t → context m t ≡ 0 → (lexeme_of m.options (drop at s)).fault ≡ 0
        → Stops n q (act at (drop at s) m (lexeme_of m.options (drop at s)).size t) → Stops n q (next at (drop at s) m)
    unfolding next lower
    acts n q t e c f h = rw (e, c, f) h

    close-refuses : token_at s at m ≡ Close → m.stack ≡ [] → Refuses 12 at whole
    unfolding act closing Stops
    close-refuses e z =
        stops-refuses 12 at (inside-token s at m Close e (λ y. let w : ◌≡◌ {A = ℕ} 0 1 = cc in omega arith))
        (acts 12 at Close e refl (close-quiet m.options (drop at s) e) (rw z (omega arith, refl)))

    deep-refuses : (i : Options) → token_at s at m ≡ Open i → deepest ≤ length m.stack → Refuses 13 at whole
    unfolding act opening Stops
    deep-refuses i e h =
        stops-refuses 13 at (inside-token s at m (Open i) e (λ y. let w : ◌≡◌ {A = ℕ} 0 1 = cc in omega arith))
        (acts 13 at (Open i) e refl (open-quiet m.options (drop at s) i e) (rw (le-leb deepest (length m.stack) h) (omega arith, refl)))

    open-refuses : length s ≤ at → 0 < length m.stack → Refuses 12 (length s) whole
    unfolding Refuses
    open-refuses h z =
        let e : at ≡ length s = omega (arith, stands-fits s o at m S) in
        judged-refuses (length s) 12 (length s) (walk s 0 0 (begin o))
        (subst (Refuses 12 (length s)) (sym (stands-walk s o at m S ∙ walk_end s at m.stack m.branches m.items m.options m.target h)) (still_open e m.stack z))
      where
        still_open : at ≡ length s → (st : List Frame) → 0 < length st → Refuses 12 (length s) (ended at (group_of m) st)
        still_open e [] y = absurd (omega arith)
        still_open e (f ∷ fs) y = (omega arith, e)

    comment-refuses : plainly m.options.quoted (row12 (drop at s)) ≡ true → raw_token s at m ≡ false → Refuses 12 (length s) whole
    unfolding act Stops
    comment-refuses h r =
        let e = row-unclosed m.options (drop at s) (h, r) in
        let p : at + length (drop at s) ≡ length s = omega (arith, stands-fits s o at m S, length-drop at s) in
        stops-refuses 12 (length s) (inside-token s at m Unclosed e.0 (λ y. let w : ◌≡◌ {A = ℕ} 0 1 = cc in omega arith))
        (acts 12 (length s) Unclosed e.0 refl e.1 (omega arith, p))

    class-refuses : (n q : ℕ) → token_at s at m ≡ Class → AtMost n (class_of m.options.caseless (drop (at + 1) s) (at + 1)).number
        → (class_of m.options.caseless (drop (at + 1) s) (at + 1)).place ≡ q → Refuses n q whole
    unfolding act Stops
    class-refuses n q e a p =
        let c = class_of m.options.caseless (drop (at + 1) s) (at + 1) in
        let bad : c.number ≡ 0 → ⊥ = λ z. omega (arith, a.some) in
        stops-refuses n q (inside-token s at m Class e (λ y. let w : ◌≡◌ {A = ℕ} 0 1 = cc in omega arith))
        (acts n q Class e refl (class-quiet m.options (drop at s) e) (rw (drop-drop 1 at s, ne_eqb c.number 0 bad) (a.most, p)))

  -- a class with a faulty member, and one that is not closed
  member-refuses : (caseless quoted : Bool) (n at : ℕ) → MemberAt s o caseless quoted at → AtMost n (member_fault caseless quoted (drop at s) (raw_member caseless quoted (drop at s))) → Refuses n at whole
  member-refuses caseless quoted n at M a =
      let C = M.class in
      let O = class-onward caseless s (M.bracket + 1) at M.is_first quoted M.stands in
      let m : Member = member_at caseless quoted (drop at s) in
      let f : AtMost n m.fault = subst (AtMost n) (sym (member-rows s o caseless quoted at M)) a in
      let e =
      ap (λ (c : Bool). class_of c (drop (M.bracket + 1) s) (M.bracket + 1)) C.case
      ∙ O.same
      ∙ members-fault caseless O.negated M.is_first quoted O.set s at M.inside M.unmarked m M.member refl (λ z. omega (arith, f.some)) in
      class-refuses M.bracket C.state C.stands n at C.token
      (subst (AtMost n) (sym (ap (λ (c : classes.Class). c.number) e)) f)
      (ap (λ (c : classes.Class). c.place) e)

  unclosed-refuses : (at bracket : ℕ) (caseless b q : Bool) → ClassAt s o caseless bracket → InClass s caseless (bracket + 1) at b q → length s ≤ at → Refuses 8 (length s) whole
  unclosed-refuses at bracket caseless b q C i h =
      let O = class-onward caseless s (bracket + 1) at b q i in
      let e = ap (λ (c : Bool). class_of c (drop (bracket + 1) s) (bracket + 1)) C.case ∙ O.same ∙ members-end caseless O.negated b q O.set s at h in
      let inside : bracket < length s = inside-token s bracket C.state Class C.token (λ y. let w : ◌≡◌ {A = ℕ} 0 1 = cc in omega arith) in
      let place : at ≡ length s = omega (arith, class-fits caseless s (bracket + 1) at b q i (omega arith)) in
      class-refuses bracket C.state C.stands 8 (length s) C.token
      (subst (AtMost 8) (sym (ap (λ (c : classes.Class). c.number) e)) (record { some = omega arith; most = omega arith }))
      (ap (λ (c : classes.Class). c.place) e ∙ place)

  finished-walk : (t : Syntax) → Finished s o t → walk s 0 0 (begin o) ≡ tree t
  finished-walk t F =
      let m = F.state in
      stands-walk s o F.place m F.stands
      ∙ walk_end s F.place m.stack m.branches m.items m.options m.target F.end
      ∙ ap (ended F.place (group_of m)) F.closed
      ∙ ap tree (sym F.tree)

  empty-refuses : (t : Syntax) → Finished s o t → MatchesEmpty t → Refuses 15 (length s) whole
  unfolding judged Refuses
  empty-refuses t F h = rw (finished-walk t F, true-T (nullable t) ((matches-empty t).1 h)) (omega arith, refl)

  many-refuses : (t : Syntax) → Finished s o t → limit < positions (write t) → Refuses 16 (length s) whole
  unfolding judged Refuses
  many-refuses t F h =
      rw (finished-walk t F, lt-ltb limit (saturating t) ((above-limit t).1 h))
      (either (Refuses 16 (length s)) (nullable t) (λ e. (omega arith, refl)) (λ e. (omega arith, refl)))

  abbrev ten : ℕ → State → Bool
  ten at m = row10 m.target (token_at s at m)

  -- the rows of the token at a place, and of the member there
  abbrev own : (List ℕ → Bool) → ℕ → State → Bool
  own row at m = plainly m.options.quoted (row (drop at s))

  abbrev of_member : (List ℕ → Bool) → Bool → Bool → ℕ → Bool
  of_member row c b at = of_end row c b (drop at s)

  reason-refuses : (n q : ℕ) → Reason s o n q → Refuses n q whole
  reason-refuses n q (Reason.escape_cut at m S x) = rows-refuse at m S 6 (most6 (own row6 at m) (own row7 at m) false (ten at m) (own row11 at m) (own row14 at m) (raw_token s at m) (true-T _ x))
  reason-refuses n q (Reason.member_cut at c b M x) = member-refuses c b 6 at M (most6 (of_member row6 c b at) (of_member row7 c b at) (row9 c b (drop at s)) false false (of_member member_row14 c b at) (raw_member c b (drop at s)) (true-T _ x))
  reason-refuses n q (Reason.escape_large at m S x) = rows-refuse at m S 7 (most7 (own row6 at m) (own row7 at m) false (ten at m) (own row11 at m) (own row14 at m) (raw_token s at m) (true-T _ x))
  reason-refuses n q (Reason.member_large at c b M x) = member-refuses c b 7 at M (most7 (of_member row6 c b at) (of_member row7 c b at) (row9 c b (drop at s)) false false (of_member member_row14 c b at) (raw_member c b (drop at s)) (true-T _ x))
  reason-refuses n q (Reason.class_open at bracket c b k C i h) = unclosed-refuses at bracket c b k C i h
  reason-refuses n q (Reason.bad_range at c b M x) = member-refuses c b 9 at M (most9 (of_member row6 c b at) (of_member row7 c b at) (row9 c b (drop at s)) false false (of_member member_row14 c b at) (raw_member c b (drop at s)) (true-T _ x))
  reason-refuses n q (Reason.nothing_repeated at m S x) = rows-refuse at m S 10 (most10 (own row6 at m) (own row7 at m) false (ten at m) (own row11 at m) (own row14 at m) (raw_token s at m) (true-T _ x))
  reason-refuses n q (Reason.bounds_are_bad at m S x) = rows-refuse at m S 11 (most11 (own row6 at m) (own row7 at m) false (ten at m) (own row11 at m) (own row14 at m) (raw_token s at m) (true-T _ x))
  reason-refuses n q (Reason.group_open at m S h z) = open-refuses at m S h z
  reason-refuses n q (Reason.comment_open at m S x r) = comment-refuses at m S (true-T _ x) r
  reason-refuses n q (Reason.no_group at m S e z) = close-refuses at m S e z
  reason-refuses n q (Reason.too_deep at m i S e h) = deep-refuses at m S i e h
  reason-refuses n q (Reason.unsupported at m S x) = rows-refuse at m S 14 (most14 (own row6 at m) (own row7 at m) false (ten at m) (own row11 at m) (own row14 at m) (raw_token s at m) (true-T _ x))
  reason-refuses n q (Reason.member_unsupported at c b M x) = member-refuses c b 14 at M (most14 (of_member row6 c b at) (of_member row7 c b at) (row9 c b (drop at s)) false false (of_member member_row14 c b at) (raw_member c b (drop at s)) (true-T _ x))
  reason-refuses n q (Reason.raw_byte at m S x) = rows-refuse at m S 23 (most23 (own row6 at m) (own row7 at m) false (ten at m) (own row11 at m) (own row14 at m) (raw_token s at m) (true-T _ x))
  reason-refuses n q (Reason.member_raw at c b M x) = member-refuses c b 23 at M (most23 (of_member row6 c b at) (of_member row7 c b at) (row9 c b (drop at s)) false false (of_member member_row14 c b at) (raw_member c b (drop at s)) (true-T _ x))
  reason-refuses n q (Reason.matches_nothing t F x) = empty-refuses t F x
  reason-refuses n q (Reason.too_many t F x) = many-refuses t F x

-- ---- the theorems

module _ (s : List ℕ) (o : Options) where
  read-decided : Decided s o (read_of s o)
  unfolding read_of
  read-decided = judged-decided s o (walk s 0 0 (begin o)) (walk-answered s o (length s) 0 (begin o) (omega arith) Stands.begins)

  read-refuses : (n q : ℕ) → Reason s o n q → Refuses n q (read_of s o)
  unfolding read_of
  read-refuses n q r = reason-refuses s o n q r

  -- every refusal has its reason
  pub refusal-reason : (n p : ℕ) → read_of s o ≡ refused n p → Reason s o n p
  unfolding Decided
  refusal-reason n p e = rw e at read-decided

  refusal-lowest : (n p : ℕ) → read_of s o ≡ refused n p → (m q : ℕ) → Reason s o m q → (n ≤ m) × (q ≡ p)
  unfolding Refuses
  refusal-lowest n p e m q r = let h : (n ≤ m) × (p ≡ q) = rw e at (read-refuses m q r) in (h.0, sym h.1)

  decides-refused : (n p : ℕ) → Decides s o n p → read_of s o ≡ refused n p
  unfolding Refuses
  decides-refused n p D = by_read (read_of s o) refl (read-refuses n p D.reason)
    where
      by_read : (r : Read) → read_of s o ≡ r → Refuses n p r → read_of s o ≡ refused n p
      by_read (refused number place) e h =
          let l : n ≤ number = (D.lowest number place (refusal-reason number place e)).0 in
          let same : number ≡ n = omega (arith, h.0) in
          e ∙ ap₂ refused same h.1
      by_read (tree t) e h = absurd h

  -- A pattern is refused with a number and place exactly if they decide.
  pub decided : (n p : ℕ) → (read_of s o ≡ refused n p) ↔ Decides s o n p
  decided n p = (λ e. record { reason = refusal-reason n p e; lowest = refusal-lowest n p e }, decides-refused n p)

  -- no reason holds
  abbrev pub NoReason : Type 0
  NoReason = (n p : ℕ) → Reason s o n p → ⊥

  none-holds : ((t : Syntax) × (read_of s o ≡ tree t)) → NoReason
  unfolding Refuses
  none-holds a n p r = rw a.1 at (read-refuses n p r)

  none-refuses : NoReason → (t : Syntax) × (read_of s o ≡ tree t)
  none-refuses no-reason = by_read (read_of s o) refl
    where
      by_read : (r : Read) → read_of s o ≡ r → (t : Syntax) × (read_of s o ≡ tree t)
      by_read (refused number place) e = absurd (no-reason number place (refusal-reason number place e))
      by_read (tree t) e = (t, e)

  -- It reads as a tree exactly if no reason holds.
  pub reads-if : ((t : Syntax) × (read_of s o ≡ tree t)) ↔ NoReason
  reads-if = (none-holds, none-refuses)

  -- The reader accepts it exactly if besides it is not too long.
  pub accepted : ((answer_of (limited_read s o)).number ≡ 0) ↔ ((length s ≤ longest) × NoReason)
  unfolding limited_read answer_of
  accepted = (
    λ z. let a = accepted-tree s o (answer_of (limited_read s o)) refl z in
        let w = within s o a.0 a.1 in
        (w.0, none-holds (a.0, w.1)),
    λ h. rw (le-ltb longest (length s) h.0, (none-refuses h.1).1),
  )
