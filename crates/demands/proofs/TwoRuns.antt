-- What one moment reports. Every byte and the closing has two runs of reports, the first at the
-- smaller offset. If the first run's test says which pairs fall there, the second's which fall at
-- the larger offset, both with their starts, and the marks which single-match rules have had a pair
-- before, then the two runs report exactly the pairs of this moment that stay, in their order, and
-- the marks afterwards say the same of the next moment. Assumes nothing.
use mathlib.Core.Path.{◌≡◌, refl, sym, subst, subst₂, ap}
use mathlib.Core.Logic.{◌⊎◌, inl, inr, ◌↔◌}
use mathlib.Core.Bool.{Bool, true, false, cond, not, ◌&&◌, ◌||◌}
use mathlib.Core.List.Memᴰ
use mathlib.Core.List.{List, [], ◌∷◌, ◌++◌, Memᴰ}
use Prim.Native.Nat.{ℕ, zero, suc, ◌≤◌, ◌<◌}
use native.Mathlib.Omega.{arith}
use native.Mathlib.Decide.{ℕ_discrete, dec_lt}
use lib.Dec.{T, T_not, not_T, ltb, lt→ltb}
use Rattle.sets.specs.Set.{on}
use Rattle.sets.proofs.Bits.{on-word_of}
use Rattle.table.specs.Automaton.{Automaton, single}
use Rattle.stream.specs.Byte.{due, run_marks, two_marks}
use Rattle.meaning.specs.Rule.{Rule, ByteSet}
use Rattle.meaning.specs.Ordered.{Falls, Hides, Stays, StartIs, Entry, entry, Before, Rising}
use Rattle.meaning.proofs.Logic.{and_T, or-T}
use Rattle.meaning.proofs.Enumerated.{append-rising}
use Rattle.meaning.proofs.OneList.{one-start}
use Rattle.demands.proofs.Carried.{Carries}

-- ---- which pairs of a moment stay

module _ (bytes : List ℕ) (r : Rule) where
  -- the single-match rule has had a pair before moment m
  abbrev pub Marked : ℕ → Type 0
  Marked m = T r.single × ((j c : ℕ) × (j < m) × Falls bytes r j c)

  -- the pairs of moment m have offset d or e, and d, the smaller one, is there
  module _ (m d e : ℕ) (only : (c : ℕ) → Falls bytes r m c → ((c ≡ d) × (d < e)) ⊎ (c ≡ e)) where
    abbrev Early : Type 0
    Early = (d < e) × Falls bytes r m d

    moved : (j c k : ℕ) → j ≡ m → c ≡ k → Falls bytes r j c → Falls bytes r m k
    moved j c k p q f = subst₂ (λ (x y : ℕ). Falls bytes r x y) p q f

    stays-first : (Early × (¬ Marked m)) ↔ ((d < e) × Stays bytes r m d)
    stays-first = (
      λ h. (h.0.0, record { falls = h.0.1; first = λ j c f x. none h.0.0 h.1 j c f x }),
      λ h. ((h.0, h.1.falls), λ u. h.1.first u.1.0 u.1.1 u.1.3 (u.0, inl u.1.2)),
    )
      where
        none : d < e → ¬ Marked m → (j c : ℕ) → Falls bytes r j c → Hides bytes r j c m d → ⊥
        none lt n j c f (t, inl x) = n (t, (j, c, x, f))
        none lt n j c f (t, inr x) = elim (only c (moved j c c x.0 refl f)) [ inl y ↦ omega (arith, x.1, y.0) | inr y ↦ omega (arith, x.1, y) ]

    stays-second : (Falls bytes r m e × (¬ Marked m) × (¬ (T r.single × Early))) ↔ Stays bytes r m e
    stays-second = (
      λ h. record { falls = h.0; first = λ j c f x. none h.1 h.2 j c f x },
      λ h. (
        h.falls,
        λ u. h.first u.1.0 u.1.1 u.1.3 (u.0, inl u.1.2),
        λ u. h.first m d u.1.1 (u.0, inr (refl, u.1.0)),
      ),
    )
      where
        none : ¬ Marked m → ¬ (T r.single × Early) → (j c : ℕ) → Falls bytes r j c → Hides bytes r j c m e → ⊥
        none n l j c f (t, inl x) = n (t, (j, c, x, f))
        none n l j c f (t, inr x) = elim (only c (moved j c c x.0 refl f)) [
          | inl y ↦ l (t, (y.1, moved j c d x.0 y.0 f))
          | inr y ↦ omega (arith, x.1, y)
        ]

    marked_next : Marked (suc m) ↔ (Marked m ⊎ (T r.single × (Early ⊎ Falls bytes r m e)))
    marked_next = (
      λ h. go h (dec_lt h.1.0 m),
      λ h. elim h [
        | inl u ↦ (u.0, (u.1.0, u.1.1, omega (arith, u.1.2), u.1.3))
        | inr u ↦ (u.0, elim u.1 [ inl x ↦ (m, d, omega arith, x.1) | inr x ↦ (m, e, omega arith, x) ])
      ],
    )
      where
        go : (h : Marked (suc m)) → Dec (h.1.0 < m) → Marked m ⊎ (T r.single × (Early ⊎ Falls bytes r m e))
        go h (yes lt) = inl (h.0, (h.1.0, h.1.1, lt, h.1.3))
        go h (no ge) =
            let q : h.1.0 ≡ m = omega (arith, h.1.2) in
            inr (
              h.0,
              elim (only h.1.1 (moved h.1.0 h.1.1 h.1.1 q refl h.1.3)) [
                | inl y ↦ inl (y.1, moved h.1.0 h.1.1 d q y.0 h.1.3)
                | inr y ↦ inr (moved h.1.0 h.1.1 e q y h.1.3)
              ],
            )

-- ---- a run of entries

-- of the first n places those that are due, each with its entry
unfoldable pub run : (ℕ → Bool) → (marks : ℕ) → (ℕ → Entry) → (n : ℕ) → List Entry
run test marks give zero = []
run test marks give (suc n) = run test marks give n ++ cond (due test marks n) (give n ∷ []) []

module _ (test : ℕ → Bool) (marks : ℕ) (give : ℕ → Entry) where
  run_out : (n : ℕ) (x : Entry) → Memᴰ x (run test marks give n) → (a : ℕ) × (a < n) × T (due test marks a) × (x ≡ give a)
  unfolding run
  run_out zero x m = absurd (Memᴰ.not-nil m)
  run_out (suc n) x m = elim (Memᴰ.append_cases (run test marks give n) m) [
    | inl k ↦ (let q = run_out n x k in (q.0, omega (arith, q.1), q.2, q.3))
    | inr k ↦ here (due test marks n) refl k
  ]
    where
      here : (b : Bool) → due test marks n ≡ b → Memᴰ x (cond b (give n ∷ []) []) → (a : ℕ) × (a < suc n) × T (due test marks a) × (x ≡ give a)
      here true e k = (n, omega arith, subst T (sym e) tt, Memᴰ.eq_of_singleton k)
      here false e k = absurd (Memᴰ.not-nil k)

  run_in : (n a : ℕ) → a < n → T (due test marks a) → Memᴰ (give a) (run test marks give n)
  unfolding run
  run_in zero a lt t = absurd (omega arith)
  run_in (suc n) a lt t = elim (ℕ_discrete a n) [
    | yes e ↦ Memᴰ.append_right (run test marks give n) (here (due test marks n) (subst (λ (k : ℕ). T (due test marks k)) e t) (ap give e))
    | no e ↦ Memᴰ.append_left (cond (due test marks n) (give n ∷ []) []) (run_in n a (omega arith) t)
  ]
    where
      here : (b : Bool) → T b → give a ≡ give n → Memᴰ (give a) (cond b (give n ∷ []) [])
      here true t e = Memᴰ.head e
      here false t e = absurd t

-- the entry of the rule in place a at moment m and offset e, with its start
abbrev pub placed : Automaton → (m e : ℕ) → (start : ℕ → ℕ) → ℕ → Entry
placed w m e start a = entry m e (w.id a) (start a)

module _ (w : Automaton) (rising : (a b : ℕ) → a < b → b < w.rules → w.id a < w.id b) (test : ℕ → Bool) (marks m e : ℕ) (start : ℕ → ℕ) where
  abbrev give : ℕ → Entry
  give = placed w m e start

  run-rising : (n : ℕ) → n ≤ w.rules → Rising (run test marks give n)
  unfolding run Rising
  run-rising zero le = tt
  run-rising (suc n) le =
      append-rising (run test marks give n) (cond (due test marks n) (give n ∷ []) []) (run-rising n (omega arith)) (one (due test marks n))
      (λ x y k l. order x y k (due test marks n) l)
    where
      one : (b : Bool) → Rising (cond b (give n ∷ []) [])
      one true = (λ y k. absurd (Memᴰ.not-nil k), tt)
      one false = tt

      order : (x y : Entry) → Memᴰ x (run test marks give n) → (b : Bool) → Memᴰ y (cond b (give n ∷ []) []) → Before x y
      order x y k true l =
          let q = run_out test marks give n x k in
          subst₂ Before (sym q.3) (sym (Memᴰ.eq_of_singleton l)) (inr (refl, inr (refl, rising q.0 n q.1 le)))
      order x y k false l = absurd (Memᴰ.not-nil l)

-- ---- the two runs of a moment

-- what a machine goes by at a moment: the tests of the two runs, the marks before them, and the
-- starts that they give
pub record Told : Type 0 where
  pub one : ℕ → Bool
  pub two : ℕ → Bool
  pub marks : ℕ
  pub first : ℕ → ℕ
  pub second : ℕ → ℕ

unfoldable pub two_runs : Automaton → (m d e : ℕ) → Told → List Entry
two_runs w m d e x = run x.one x.marks (placed w m d x.first) w.rules ++ run x.two (run_marks w x.one x.marks) (placed w m e x.second) w.rules

module _ (w : Automaton) (rule : ℕ → Rule) (from : ℕ → ℕ) (tab : ℕ → ByteSet) (enc : Carries w rule from tab) (bytes : List ℕ) where
  -- moment m, with its two offsets: what the tests of its runs and the marks before them say
  pub record Tested (m d e : ℕ) (one two : ℕ → Bool) (marks : ℕ) : Type 0 where
    pub only : (a c : ℕ) → a < w.rules → Falls bytes (rule a) m c → ((c ≡ d) × (d < e)) ⊎ (c ≡ e)
    pub one_is : (a : ℕ) → a < w.rules → T (one a) ↔ ((d < e) × Falls bytes (rule a) m d)
    pub two_is : (a : ℕ) → a < w.rules → T (two a) ↔ Falls bytes (rule a) m e
    pub marks_are : (a : ℕ) → a < w.rules → T (on marks a) ↔ Marked bytes (rule a) m

  -- and what the starts say
  pub record Turn (m d e : ℕ) (x : Told) : Type 0 where
    pub tested : Tested m d e x.one x.two x.marks
    pub first_is : (a : ℕ) → a < w.rules → d < e → Falls bytes (rule a) m d → StartIs bytes (rule a) m d (x.first a)
    pub second_is : (a : ℕ) → a < w.rules → Falls bytes (rule a) m e → StartIs bytes (rule a) m e (x.second a)

  -- a run marks the single-match rules that pass its test
  marked-is : (test : ℕ → Bool) (marks a : ℕ) → a < w.rules → T (on (run_marks w test marks) a) ↔ (T (on marks a) ⊎ (T (rule a).single × T (test a)))
  unfolding run_marks
  marked-is test marks a lt =
      let new : Bool = ltb a w.rules && (single w a && test a) in
      let digit : on (run_marks w test marks) a ≡ (on marks a || new) =
      on-word_of 64 (λ a. on marks a || (ltb a w.rules && (single w a && test a))) a (omega (arith, enc.few_rules)) in (
        λ h. elim ((or-T (on marks a) new).0 (subst T digit h)) [
          | inl x ↦ inl x
          | inr x ↦ (let c = (and_T (single w a) (test a)).0 ((and_T (ltb a w.rules) (single w a && test a)).0 x).1 in inr (subst T (enc.single_is a lt) c.0, c.1))
        ],
        λ h. subst T (sym digit) ((or-T (on marks a) new).1 (elim h [
          | inl x ↦ inl x
          | inr x ↦ inr ((and_T (ltb a w.rules) (single w a && test a)).1 (lt→ltb a w.rules lt, (and_T (single w a) (test a)).1 (subst T (sym (enc.single_is a lt)) x.0, x.1)))
        ])),
      )

  id-rising : (a b : ℕ) → a < b → b < w.rules → w.id a < w.id b
  id-rising a b lt lb = subst₂ ◌<◌ (sym (enc.id_is a (omega arith))) (sym (enc.id_is b lb)) (enc.rising a b lt lb)

  module _ (m d e : ℕ) (one two : ℕ → Bool) (marks : ℕ) (tested : Tested m d e one two marks) where
    -- the marks between the runs
    abbrev later : ℕ
    later = run_marks w one marks

    due-one : (a : ℕ) → a < w.rules → T (due one marks a) ↔ ((d < e) × Stays bytes (rule a) m d)
    due-one a lt =
        let stays = stays-first bytes (rule a) m d e (λ c f. tested.only a c lt f) in
        let test = tested.one_is a lt in
        let mark = tested.marks_are a lt in (
          λ h. let c = (and_T (one a) (not (on marks a))).0 h in stays.0 (test.0 c.0, λ u. T_not (on marks a) c.1 (mark.1 u)),
          λ h. let c = stays.1 h in (and_T (one a) (not (on marks a))).1 (test.1 c.0, not_T (on marks a) (λ t. c.1 (mark.0 t))),
        )

    due-two : (a : ℕ) → a < w.rules → T (due two later a) ↔ Stays bytes (rule a) m e
    due-two a lt =
        let stays = stays-second bytes (rule a) m d e (λ c f. tested.only a c lt f) in
        let early = tested.one_is a lt in
        let test = tested.two_is a lt in
        let mark = tested.marks_are a lt in
        let between = marked-is one marks a lt in (
          λ h.
              let c = (and_T (two a) (not (on later a))).0 h in
              stays.0 (
                test.0 c.0,
                λ u. T_not (on later a) c.1 (between.1 (inl (mark.1 u))),
                λ u. T_not (on later a) c.1 (between.1 (inr (u.0, early.1 u.1))),
              ),
          λ h.
              let c = stays.1 h in
              (and_T (two a) (not (on later a))).1 (
                test.1 c.0,
                not_T (on later a) (λ t. elim (between.0 t) [ inl x ↦ c.1 (mark.0 x) | inr x ↦ c.2 (x.0, early.0 x.1) ]),
              ),
        )

    pub marks-next : (a : ℕ) → a < w.rules → T (on (two_marks w one two marks) a) ↔ Marked bytes (rule a) (suc m)
    unfolding two_marks
    marks-next a lt =
        let next = marked_next bytes (rule a) m d e (λ c f. tested.only a c lt f) in
        let mark = tested.marks_are a lt in
        let once = marked-is one marks a lt in
        let twice = marked-is two later a lt in (
          λ h. next.1 (elim (twice.0 h) [
            | inl x ↦ elim (once.0 x) [ inl y ↦ inl (mark.0 y) | inr y ↦ inr (y.0, inl ((tested.one_is a lt).0 y.1)) ]
            | inr x ↦ inr (x.0, inr ((tested.two_is a lt).0 x.1))
          ]),
          λ h. twice.1 (elim (next.0 h) [
            | inl x ↦ inl (once.1 (inl (mark.1 x)))
            | inr x ↦ elim x.1 [ inl y ↦ inl (once.1 (inr (x.0, (tested.one_is a lt).1 y))) | inr y ↦ inr (x.0, (tested.two_is a lt).1 y) ]
          ]),
        )

  module _ (m d e : ℕ) (x : Told) (turn : Turn m d e x) where
    abbrev later' : ℕ
    later' = run_marks w x.one x.marks

    abbrev firsts : List Entry
    firsts = run x.one x.marks (placed w m d x.first) w.rules

    abbrev seconds : List Entry
    seconds = run x.two later' (placed w m e x.second) w.rules

    first-due : (a : ℕ) → a < w.rules → T (due x.one x.marks a) ↔ ((d < e) × Stays bytes (rule a) m d)
    first-due = due-one m d e x.one x.two x.marks turn.tested

    second-due : (a : ℕ) → a < w.rules → T (due x.two later' a) ↔ Stays bytes (rule a) m e
    second-due = due-two m d e x.one x.two x.marks turn.tested

    -- an entry of the moment: a rule, an offset, that the pair stays, and its start
    abbrev pub Reports : Entry → Type 0
    Reports y = (a : ℕ) × (a < w.rules) × ((c s : ℕ) × Stays bytes (rule a) m c × StartIs bytes (rule a) m c s × (y ≡ entry m c (w.id a) s))

    first_out : (y : Entry) → Memᴰ y firsts → Reports y × (d < e)
    first_out y k =
        let q = run_out x.one x.marks (placed w m d x.first) w.rules y k in
        let st = (first-due q.0 q.1).0 q.2 in
        ((q.0, q.1, (d, x.first q.0, st.1, turn.first_is q.0 q.1 st.0 st.1.falls, q.3)), st.0)

    second-out : (y : Entry) → Memᴰ y seconds → Reports y
    second-out y k =
        let q = run_out x.two later' (placed w m e x.second) w.rules y k in
        let st = (second-due q.0 q.1).0 q.2 in
        (q.0, q.1, (e, x.second q.0, st, turn.second_is q.0 q.1 st.falls, q.3))

    -- The two runs have the pairs that stay, each with its start, and no others ..
    pub turn-out : (y : Entry) → Memᴰ y (two_runs w m d e x) → Reports y
    unfolding two_runs
    turn-out y k = elim (Memᴰ.append_cases firsts k) [ inl l ↦ (first_out y l).0 | inr l ↦ second-out y l ]

    pub turn_in : (a c s : ℕ) → a < w.rules → Stays bytes (rule a) m c → StartIs bytes (rule a) m c s → Memᴰ (entry m c (w.id a) s) (two_runs w m d e x)
    unfolding two_runs
    turn_in a c s lt st i = elim (turn.tested.only a c lt st.falls) [
      | inl q ↦
          let here : Stays bytes (rule a) m d = subst (λ (o : ℕ). Stays bytes (rule a) m o) q.0 st in
          let start : s ≡ x.first a =
          one-start bytes (rule a) m d s (x.first a) (subst (λ (o : ℕ). StartIs bytes (rule a) m o s) q.0 i) (turn.first_is a lt q.1 here.falls) in
          subst₂ (λ (o u : ℕ). Memᴰ (entry m o (w.id a) u) (firsts ++ seconds)) (sym q.0) (sym start)
          (Memᴰ.append_left seconds (run_in x.one x.marks (placed w m d x.first) w.rules a lt ((first-due a lt).1 (q.1, here))))
      | inr q ↦
          let here : Stays bytes (rule a) m e = subst (λ (o : ℕ). Stays bytes (rule a) m o) q st in
          let start : s ≡ x.second a =
          one-start bytes (rule a) m e s (x.second a) (subst (λ (o : ℕ). StartIs bytes (rule a) m o s) q i) (turn.second_is a lt here.falls) in
          subst₂ (λ (o u : ℕ). Memᴰ (entry m o (w.id a) u) (firsts ++ seconds)) (sym q) (sym start)
          (Memᴰ.append_right firsts (run_in x.two later' (placed w m e x.second) w.rules a lt ((second-due a lt).1 here)))
    ]

    -- .. in their order.
    pub turn-rising : Rising (two_runs w m d e x)
    unfolding two_runs
    turn-rising =
        append-rising firsts seconds (run-rising w id-rising x.one x.marks m d x.first w.rules (omega arith))
        (run-rising w id-rising x.two later' m e x.second w.rules (omega arith))
        (λ y z a b.
        let f = run_out x.one x.marks (placed w m d x.first) w.rules y a in
        let g = run_out x.two later' (placed w m e x.second) w.rules z b in
        subst₂ Before (sym f.3) (sym g.3) (inr (refl, inl (first_out y a).1)))
