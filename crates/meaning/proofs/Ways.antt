-- A form matches a span exactly if some way through it runs over the span; and what that says of
-- moments, where a way passes `$` if it passes the assertion on the last line: a pair falls with
-- its last byte exactly if some way of it passes no `$` and takes that byte last; with the next
-- byte exactly if some way passes no `$` and each such way passes an assertion at its end; at the
-- closing before the stream's end exactly if each way passes `$`. Assumes nothing.
use mathlib.Core.Path.{◌≡◌, refl, sym, subst, ap, ◌∙◌}
use mathlib.Core.Logic.{◌⊎◌, inl, inr, ◌↔◌}
use mathlib.Core.Bool.{Bool, true, false, true≢false}
use mathlib.Core.List.Memᴰ
use mathlib.Core.List.{List, [], ◌∷◌, ◌++◌}
use Prim.Native.Nat.{ℕ, suc, ◌≤◌, ◌<◌}
use native.Mathlib.Omega.{arith}
use native.Mathlib.Decide.{dec_lt}
use lib.Dec.{T, ltb, ltb→lt}
use lib.ListN.{length, get_or, drop, take as front, take-append-drop, drop_of_length-le}
use lib.Seq.{length-take-le, take_all, take-append-le}
use Rattle.sets.specs.Set.{has}
use Rattle.kinds.specs.declared.Side.{Side}
use Rattle.kinds.specs.declared.Side.TheVariants.{Other, Word, Newline}
use Rattle.kinds.specs.Side.{side_of}
use Rattle.meaning.specs.Tree.{Text}
use Rattle.meaning.specs.Form.{Form, eps, take, check, seq, alt, plus, opt, Star, done, more, Match, write}
use Rattle.meaning.specs.Way.{Step, takes, passes, Way, w_eps, w_take, w_check, w_seq, w_left, w_right, w_one, w_more, w_none, w_some, Runs, SomeWay, Passes}
use Rattle.meaning.specs.Gap.{last_line, Known, byte, edge, unknown, known_before, known_after}
use Rattle.meaning.specs.Rule.{Rule, InWindows, Assertion, at_start, at_last_line, at_end, line_start, line_end, word_edge, no_word_edge, world, holds, ByteSet, stream, MatchEnds}
use Rattle.meaning.specs.Ordered.{closing_moment, seen, Settled, Falls}
use Rattle.meaning.proofs.Logic.{and_T}
use Rattle.meaning.proofs.Written.{written, unwritten}
use Rattle.meaning.proofs.Stream.{hit-longer, hit-shorter}
use Rattle.meaning.proofs.Base.{sides, line-more, known_more}
use Rattle.meaning.proofs.Moments.{before-closing, within, by_next, stays-settled, falls_at, falls-after, settled-whole}

module _ {C A : Type 0} (t : Text C A) where
  runs-join : (u v : List (Step C A)) (s m e : ℕ) → Runs t s u m → Runs t m v e → Runs t s (u ++ v) e
  unfolding Runs
  runs-join [] v s m e h r = subst (λ (x : ℕ). Runs t x v e) (sym h) r
  runs-join (takes c ∷ u) v s m e h r = (h.0, runs-join u v (suc s) m e h.1 r)
  runs-join (passes a ∷ u) v s m e h r = (h.0, runs-join u v s m e h.1 r)

  runs-cut : (u v : List (Step C A)) (s e : ℕ) → Runs t s (u ++ v) e → (m : ℕ) × Runs t s u m × Runs t m v e
  unfolding Runs
  runs-cut [] v s e h = (s, refl, h)
  runs-cut (takes c ∷ u) v s e h = let r = runs-cut u v (suc s) e h.1 in (r.0, (h.0, r.1), r.2)
  runs-cut (passes a ∷ u) v s e h = let r = runs-cut u v s e h.1 in (r.0, (h.0, r.1), r.2)

  pub way-match : {f : Form C A} {u : List (Step C A)} → Way f u → (s e : ℕ) → Runs t s u e → Match t f s e
  unfolding Runs Match
  way-match w_eps s e r = r
  way-match w_take s e r = (r.1, r.0)
  way-match w_check s e r = (r.1, r.0)
  way-match (w_seq {u = u} {v = v} x y) s e r =
      let c = runs-cut u v s e r in (c.0, way-match x s c.0 c.1, way-match y c.0 e c.2)
  way-match (w_left x) s e r = inl (way-match x s e r)
  way-match (w_right x) s e r = inr (way-match x s e r)
  way-match (w_one x) s e r = (s, done, way-match x s e r)
  way-match (w_more {u = u} {v = v} x y) s e r =
      let c = runs-cut u v s e r in
      let h = way-match x s c.0 c.1 in
      (c.0, more h.1 h.2, way-match y c.0 e c.2)
  way-match w_none s e r = inl r
  way-match (w_some x) s e r = inr (way-match x s e r)

  walk-star : (f : Form C A) → ((s e : ℕ) → Match t f s e → SomeWay t f s e) → (s m e : ℕ) → Star (Match t f) s m → Match t f m e → SomeWay t (plus f) s e
  walk-star f ih s m e done r = let x = ih s e r in (x.0, w_one x.1, x.2)
  walk-star f ih s m e (more {m = n} l h) r =
      let x = walk-star f ih s n m l h in
      let y = ih m e r in
      (x.0 ++ y.0, w_more x.1 y.1, runs-join x.0 y.0 s m e x.2 y.2)

  pub match-way : (f : Form C A) (s e : ℕ) → Match t f s e → SomeWay t f s e
  unfolding Runs Match
  match-way eps s e h = ([], w_eps, h)
  match-way (take c) s e h = (takes c ∷ [], w_take, (h.1, h.0))
  match-way (check a) s e h = (passes a ∷ [], w_check, (h.1, h.0))
  match-way (seq f g) s e h =
      let x = match-way f s h.0 h.1 in
      let y = match-way g h.0 e h.2 in
      (x.0 ++ y.0, w_seq x.1 y.1, runs-join x.0 y.0 s h.0 e x.2 y.2)
  match-way (alt f g) s e (inl h) = let x = match-way f s e h in (x.0, w_left x.1, x.2)
  match-way (alt f g) s e (inr h) = let x = match-way g s e h in (x.0, w_right x.1, x.2)
  match-way (plus f) s e h = walk-star f (λ a b r. match-way f a b r) s h.0 e h.1 h.2
  match-way (opt f) s e (inl h) = ([], w_none, h)
  match-way (opt f) s e (inr h) = let x = match-way f s e h in (x.0, w_some x.1, x.2)

  -- The two readings of a match agree.
  pub by-ways : (f : Form C A) (s e : ℕ) → Match t f s e ↔ SomeWay t f s e
  by-ways f s e = (λ h. match-way f s e h, λ h. way-match h.1 s e h.2)

-- the way's last step takes a byte
abbrev pub TakesLast : {C A : Type 0} → List (Step C A) → Type 0
TakesLast {C} {A} u = (v : List (Step C A)) × (c : C) × (u ≡ v ++ takes c ∷ [])

module _ {C A : Type 0} (t : Text C A) where
  runs_up : (u : List (Step C A)) (s e : ℕ) → Runs t s u e → s ≤ e
  unfolding Runs
  runs_up [] s e h = omega arith
  runs_up (takes c ∷ u) s e h = omega (arith, runs_up u (suc s) e h.1)
  runs_up (passes a ∷ u) s e h = runs_up u s e h.1

  -- where no assertion is known, a way that ends there takes its last byte last
  last_taken : (u : List (Step C A)) (s e : ℕ) → ((a : A) → ¬ T (t.known a e)) → Runs t s u e → (u ≡ []) ⊎ TakesLast u
  unfolding Runs
  last_taken [] s e none h = inl refl
  last_taken (takes c ∷ u) s e none h = elim (last_taken u (suc s) e none h.1) [
    | inl q ↦ inr ([], c, ap (λ (v : List (Step C A)). takes c ∷ v) q)
    | inr x ↦ inr (takes c ∷ x.0, x.1, ap (λ (v : List (Step C A)). takes c ∷ v) x.2)
  ]
  last_taken (passes a ∷ u) s e none h = elim (last_taken u s e none h.1) [
    | inl q ↦ absurd (none a (subst (λ (k : ℕ). T (t.known a k)) (subst (λ (v : List (Step C A)). Runs t s v e) q h.1) h.0))
    | inr x ↦ inr (passes a ∷ x.0, x.1, ap (λ (v : List (Step C A)). passes a ∷ v) x.2)
  ]

-- ---- what looks at the last line, and what does not

-- `$` alone depends on whether the last line ends
firm : (a : Assertion) → (at_last_line ≡ a) ⊎ ((before after : Known) (z : Bool) → world before after z a ≡ world before after false a)
firm at_start = inr (λ b k z. refl)
firm at_last_line = inl refl
firm at_end = inr (λ b k z. refl)
firm line_start = inr (λ b k z. refl)
firm line_end = inr (λ b k z. refl)
firm word_edge = inr (λ b k z. refl)
firm no_word_edge = inr (λ b k z. refl)

-- a step that does not look at the last line
Blind : Step ByteSet Assertion → Type 0
Blind (takes c) = Unit {0}
Blind (passes a) = world edge edge true a ≡ world edge edge false a

not_first : (x : Step ByteSet Assertion) (u : List (Step ByteSet Assertion)) → Blind x → ¬ Passes at_last_line u → ¬ Passes at_last_line (x ∷ u)
unfolding Blind
not_first x u blind n m = elim (Memᴰ.cases_cons m) [ inl q ↦ absurd (true≢false (subst Blind (sym q) blind)) | inr k ↦ n k ]

passes-dec : (u : List (Step ByteSet Assertion)) → Passes at_last_line u ⊎ (¬ Passes at_last_line u)
unfolding Blind
passes-dec [] = inr (λ m. Memᴰ.not-nil m)
passes-dec (takes c ∷ u) = elim (passes-dec u) [ inl m ↦ inl (Memᴰ.tail m) | inr n ↦ inr (not_first (takes c) u tt n) ]
passes-dec (passes a ∷ u) = elim (firm a) [
  | inl q ↦ inl (Memᴰ.head (ap passes q))
  | inr f ↦ elim (passes-dec u) [ inl m ↦ inl (Memᴰ.tail m) | inr n ↦ inr (not_first (passes a) u (f edge edge true) n) ]
]

-- after a byte, while the next one is not known, no assertion is known to hold
some-before : (l : List ℕ) → 0 < length l → (s : Side) × (known_before l ≡ byte s)
unfolding known_before
some-before [] h = absurd (omega arith)
some-before (x ∷ []) h = (side_of x, refl)
some-before (x ∷ y ∷ l) h = some-before (y ∷ l) (omega arith)

none-known : (s : Side) (a : Assertion) → ¬ T (world (byte s) unknown false a)
none-known s at_start h = h
none-known s at_last_line h = h
none-known s at_end h = h
none-known Newline line_start h = h
none-known Word line_start h = h
none-known Other line_start h = h
none-known s line_end h = h
none-known s word_edge h = h
none-known s no_word_edge h = h

-- ---- ways over the first bytes, and over all

module _ (bs r : List ℕ) where
  -- nothing is known where the first bytes end
  at-end-none : 0 < length bs → (a : Assertion) → ¬ T ((stream bs false).known a (length bs))
  at-end-none lt a h =
      let b = some-before bs lt in
      none-known b.0 a (subst (λ (k : Known). T (world k unknown false a)) b.1 (unknown-at (length bs) (omega arith) (omega arith) a h))
    where
      unknown-at : (j : ℕ) → length bs ≤ j → j ≤ length bs → (a : Assertion) → T ((stream bs false).known a j) → T (world (known_before bs) unknown false a)
      unknown-at j ge le a x =
          subst (λ (l : List ℕ). T (world (known_before l) unknown false a)) (take_all j bs ge)
          (subst (λ (l : List ℕ). T (world (known_before (front j bs)) (known_after l false) false a)) (drop_of_length-le bs {i = j} ge) x)

  -- what the first bytes make known stays known
  grown : (a : Assertion) (j : ℕ) → j ≤ length bs → T ((stream bs false).known a j) → T ((stream (bs ++ r) true).known a j)
  grown a j le h = go (dec_lt j (length bs))
    where
      go : Dec (j < length bs) → T ((stream (bs ++ r) true).known a j)
      go (yes lt) =
          line-more (known_before (front j (bs ++ r))) (known_after (drop j (bs ++ r)) true) (last_line (drop j (bs ++ r))) a (subst T (sym (sides bs r false true a j lt)) h)
      go (no ge) =
          subst (λ (l : List ℕ). T (world (known_before l) (known_after (drop j (bs ++ r)) true) (last_line (drop j (bs ++ r))) a)) (sym (take-append-le j bs r le))
          (known_more (known_before (front j bs)) (known_after (drop j (bs ++ r)) true) (last_line (drop j (bs ++ r))) a
          (subst (λ (l : List ℕ). T (world (known_before (front j bs)) (known_after l false) false a)) (drop_of_length-le bs {i = j} (omega arith)) h))

  -- a way over the first bytes is one over all, and passes no `$` ..
  grows : (u : List (Step ByteSet Assertion)) (s e : ℕ) → e ≤ length bs → Runs (stream bs false) s u e → Runs (stream (bs ++ r) true) s u e × (¬ Passes at_last_line u)
  unfolding Runs Blind
  grows [] s e le h = (h, λ m. Memᴰ.not-nil m)
  grows (takes c ∷ u) s e le h =
      let g = grows u (suc s) e le h.1 in ((hit-longer has holds bs r false true c s h.0, g.0), not_first (takes c) u tt g.1)
  grows (passes a ∷ u) s e le h =
      let g = grows u s e le h.1 in
      let up : s ≤ e = runs_up (stream bs false) u s e h.1 in
      ((grown a s (omega arith) h.0, g.0), not_first (passes a) u (blind (firm a)) g.1)
    where
      blind : (at_last_line ≡ a) ⊎ ((before after : Known) (z : Bool) → world before after z a ≡ world before after false a) → Blind (passes a)
      blind (inl q) = absurd (subst (λ (x : Assertion). T ((stream bs false).known x s)) (sym q) h.0)
      blind (inr f) = f edge edge true

  -- .. and the other way round, for a way that ends within them
  shrinks : (u : List (Step ByteSet Assertion)) (s e : ℕ) → e < length bs → Runs (stream (bs ++ r) true) s u e → ¬ Passes at_last_line u → Runs (stream bs false) s u e
  unfolding Runs
  shrinks [] s e lt h n = h
  shrinks (takes c ∷ u) s e lt h n =
      let up : suc s ≤ e = runs_up (stream (bs ++ r) true) u (suc s) e h.1 in
      (hit-shorter has holds bs r false true c s (omega arith) h.0, shrinks u (suc s) e lt h.1 (λ m. n (Memᴰ.tail m)))
  shrinks (passes a ∷ u) s e lt h n =
      let up : s ≤ e = runs_up (stream (bs ++ r) true) u s e h.1 in
      (known (firm a) (omega arith), shrinks u s e lt h.1 (λ m. n (Memᴰ.tail m)))
    where
      known : (at_last_line ≡ a) ⊎ ((before after : Known) (z : Bool) → world before after z a ≡ world before after false a) → s < length bs → T ((stream bs false).known a s)
      known (inl q) l = absurd (n (Memᴰ.head (ap passes q)))
      known (inr f) l =
          subst T (f (known_before (front s (bs ++ r))) (known_after (drop s (bs ++ r)) true) (last_line (drop s (bs ++ r))) ∙ sides bs r false true a s l) h.0

  -- or takes its last byte where they end
  shrinks-last : (u : List (Step ByteSet Assertion)) (s e : ℕ) → e ≤ length bs → Runs (stream (bs ++ r) true) s u e → ¬ Passes at_last_line u → TakesLast u → Runs (stream bs false) s u e
  unfolding Runs
  shrinks-last u s e le h n (v, c, q) =
      let x = runs-cut (stream (bs ++ r) true) v (takes c ∷ []) s e (subst (λ (w : List (Step ByteSet Assertion)). Runs (stream (bs ++ r) true) s w e) q h) in
      let lt : x.0 < length bs = omega (arith, x.2.1) in
      let front-runs : Runs (stream bs false) s v x.0 =
      shrinks v s x.0 lt x.1 (λ m. n (subst (λ (w : List (Step ByteSet Assertion)). Passes at_last_line w) (sym q) (Memᴰ.append_left (takes c ∷ []) m))) in
      subst (λ (w : List (Step ByteSet Assertion)). Runs (stream bs false) s w e) (sym q)
      (runs-join (stream bs false) v (takes c ∷ []) s x.0 e front-runs (hit-shorter has holds bs r false true c x.0 lt x.2.0, x.2.1))

-- ---- when a pair falls

module _ (bytes : List ℕ) (r : Rule) (e : ℕ) where
  abbrev n : ℕ
  n = length bytes

  -- the ways of the pair's matches on the whole stream, from starts that the rule's windows let
  -- through
  abbrev pub WayOf : List (Step ByteSet Assertion) → Type 0
  WayOf u = (s : ℕ) × (s < e) × Way (write r.tree) u × Runs (stream bytes true) s u e × InWindows r.windows s e

  -- some way passes no `$`; and some way passes none and takes its last byte last
  abbrev pub Plain : Type 0
  Plain = (u : List (Step ByteSet Assertion)) × WayOf u × (¬ Passes at_last_line u)

  abbrev pub Prompt : Type 0
  Prompt = (u : List (Step ByteSet Assertion)) × WayOf u × (¬ Passes at_last_line u) × TakesLast u

  -- what is settled while bytes come, by ways over the bytes known
  settled-way : (m : ℕ) → m ≤ n → Settled bytes r m e
      ↔ ((u : List (Step ByteSet Assertion)) × (s : ℕ) × (s < e) × Way (write r.tree) u × Runs (stream (front m bytes) false) s u e × InWindows r.windows s e)
  settled-way m le =
      let known : seen bytes m ≡ stream (front m bytes) false = ap (stream (front m bytes)) (before-closing bytes m le) in
      subst (λ (t : Text ByteSet Assertion). Settled bytes r m e
      ↔ ((u : List (Step ByteSet Assertion)) × (s : ℕ) × (s < e) × Way (write r.tree) u × Runs t s u e × InWindows r.windows s e)) known (
        λ h. let w = match-way (seen bytes m) (write r.tree) h.start e (written (seen bytes m) r.tree h.start e h.matched) in
            (w.0, h.start, h.earlier, w.1, w.2, h.inside),
        λ h. record { start = h.1; earlier = h.2; matched = unwritten (seen bytes m) r.tree h.1 e (way-match (seen bytes m) h.3 h.1 e h.4); inside = h.5 },
      )

  whole : (m : ℕ) → front m bytes ++ drop m bytes ≡ bytes
  whole m = take-append-drop m bytes

  grown-way : (m : ℕ) → m ≤ n → e ≤ m → (u : List (Step ByteSet Assertion)) (s : ℕ) → Runs (stream (front m bytes) false) s u e → Runs (stream bytes true) s u e × (¬ Passes at_last_line u)
  grown-way m lm le u s h =
      subst (λ (l : List ℕ). Runs (stream l true) s u e × (¬ Passes at_last_line u)) (whole m)
      (grows (front m bytes) (drop m bytes) u s e (omega (arith, length-take-le m bytes lm)) h)

  settled-prompt : e ≤ n → Settled bytes r e e ↔ Prompt
  unfolding Runs
  settled-prompt le = (
    λ h.
        let w = (settled-way e le).0 h in
        let len : length (front e bytes) ≡ e = length-take-le e bytes le in
        let g = grown-way e le (omega arith) w.0 w.1 w.4 in
        let none : (a : Assertion) → ¬ T ((stream (front e bytes) false).known a e) =
        λ a. subst (λ (k : ℕ). ¬ T ((stream (front e bytes) false).known a k)) len (at-end-none (front e bytes) [] (omega (arith, w.2)) a) in
        let last : TakesLast w.0 = elim (last_taken (stream (front e bytes) false) w.0 w.1 e none w.4) [
          | inl q ↦ absurd (omega (arith, w.2, subst (λ (v : List (Step ByteSet Assertion)). Runs (stream (front e bytes) false) w.1 v e) q w.4))
          | inr x ↦ x
        ] in
        (w.0, (w.1, w.2, w.3, g.0, w.5), g.1, last),
    λ h.
        let runs : Runs (stream (front e bytes ++ drop e bytes) true) h.1.0 h.0 e = subst (λ (l : List ℕ). Runs (stream l true) h.1.0 h.0 e) (sym (whole e)) h.1.3 in
        (settled-way e le).1 (
          h.0,
          h.1.0,
          h.1.1,
          h.1.2,
          shrinks-last (front e bytes) (drop e bytes) h.0 h.1.0 e (omega (arith, length-take-le e bytes le)) runs h.2 h.3,
          h.1.4,
        ),
  )

  settled_plain : e < n → Settled bytes r (suc e) e ↔ Plain
  settled_plain lt = (
    λ h.
        let w = (settled-way (suc e) lt).0 h in
        let g = grown-way (suc e) lt (omega arith) w.0 w.1 w.4 in
        (w.0, (w.1, w.2, w.3, g.0, w.5), g.1),
    λ h.
        let runs : Runs (stream (front (suc e) bytes ++ drop (suc e) bytes) true) h.1.0 h.0 e = subst (λ (l : List ℕ). Runs (stream l true) h.1.0 h.0 e) (sym (whole (suc e))) h.1.3 in
        (settled-way (suc e) lt).1 (
          h.0,
          h.1.0,
          h.1.1,
          h.1.2,
          shrinks (front (suc e) bytes) (drop (suc e) bytes) h.0 h.1.0 e (omega (arith, length-take-le (suc e) bytes lt)) runs h.2,
          h.1.4,
        ),
  )

  -- A pair falls with its last byte exactly if some way of it passes no `$` and takes that byte
  -- last ..
  pub with-last-byte : Falls bytes r e e ↔ Prompt
  unfolding Runs
  with-last-byte = (
    λ f. (settled-prompt (within bytes r e e f.settled).1).0 f.settled,
    λ h. falls_at bytes r e ((settled-prompt (ended h.0 h.1 h.3)).1 h),
  )
    where
      -- its last byte is one of the stream's
      ended : (u : List (Step ByteSet Assertion)) → WayOf u → TakesLast u → e ≤ n
      ended u w (v, c, q) =
          let x = runs-cut (stream bytes true) v (takes c ∷ []) w.0 e (subst (λ (y : List (Step ByteSet Assertion)). Runs (stream bytes true) w.0 y e) q w.3) in
          omega (arith, x.2.1, ltb→lt x.0 n ((and_T (ltb x.0 n) (has c (get_or bytes x.0 0))).0 x.2.0).0)

  -- .. with the next byte exactly if some way passes no `$`, and none of these takes its last byte
  -- last ..
  pub with-next-byte : e < n → Falls bytes r (suc e) e ↔ (Plain × (¬ Prompt))
  with-next-byte lt =
      let both = falls-after bytes r e e (omega arith) (omega arith) in
      let own = settled-prompt (omega arith) in
      let now = settled_plain lt in
      (λ f. let g = both.0 f in (now.0 g.0, λ x. g.1 (own.1 x)), λ h. both.1 (now.1 h.0, λ x. h.1 (own.0 x)))

  -- .. at the closing, before the stream's end, exactly if it has a way and each of its ways passes
  -- `$` ..
  pub at-the-closing : e < n → Falls bytes r (closing_moment bytes) e ↔ (MatchEnds r bytes e × ((u : List (Step ByteSet Assertion)) → WayOf u → Passes at_last_line u))
  at-the-closing lt =
      let both = falls-after bytes r n e (omega arith) (omega arith) in
      let next : Settled bytes r n e ↔ Settled bytes r (suc e) e =
      (λ h. (by_next bytes r (suc e) e (omega arith) lt).1 ((by_next bytes r n e lt (omega arith)).0 h), λ h. stays-settled bytes r (suc e) n e lt (omega arith) h) in
      let now = settled_plain lt in (
        λ f. let g = both.0 f in (
          (settled-whole bytes r e).0 g.0,
          λ u w. elim (passes-dec u) [ inl m ↦ m | inr k ↦ absurd (g.1 (next.1 (now.1 (u, w, k)))) ],
        ),
        λ h. both.1 ((settled-whole bytes r e).1 h.0, λ x. let p = now.0 (next.0 x) in p.2 (h.1 p.0 p.1)),
      )

  -- .. and at its end exactly if it has a way, and none of those that pass no `$` takes its last
  -- byte last.
  pub at-the-end : e ≡ n → Falls bytes r (closing_moment bytes) e ↔ (MatchEnds r bytes e × (¬ Prompt))
  at-the-end q =
      let both = falls-after bytes r n e (omega arith) (omega arith) in
      let own : Settled bytes r n e ↔ Prompt = subst (λ (k : ℕ). Settled bytes r k e ↔ Prompt) q (settled-prompt (omega arith)) in (
        λ f. let g = both.0 f in ((settled-whole bytes r e).0 g.0, λ x. g.1 (own.1 x)),
        λ h. both.1 ((settled-whole bytes r e).1 h.0, λ x. h.1 (own.0 x)),
      )
