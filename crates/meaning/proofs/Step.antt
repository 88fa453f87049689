-- One step of the position automaton and its end, over any text and any assertions: a position is
-- reached by the byte at k exactly if the byte is in its set and it is first at a start there, or
-- follows one reached before; a match ends at e exactly if a reached position is last there. By
-- structural recursion on the form; in a sequence the range of a position tells in which part it
-- lies. Assumes nothing.
use mathlib.Core.Path.{◌≡◌, refl, sym, subst, subst₂, ap, ◌∙◌}
use mathlib.Core.Logic.{◌⊎◌, inl, inr, ◌↔◌}
use mathlib.Core.Bool.{Bool}
use Prim.Native.Nat.{ℕ, suc, ◌+◌, ◌<◌}
use native.Mathlib.Nat.{suc_inj}
use native.Mathlib.Omega.{arith}
use lib.Dec.{T}
use Rattle.meaning.specs.Tree.{Text}
use Rattle.meaning.specs.Form.{Form, eps, take, check, seq, alt, plus, opt, Star, done, more, Match, positions, Reach}
use Rattle.meaning.specs.Live.{Reached}
use Rattle.meaning.proofs.Relations.{Null, First, Last, Follow, Takes}
use Rattle.meaning.proofs.Local.{reach-up}
use Rattle.meaning.proofs.Range.{last-inside, follow-inside, reach-inside}

module _ {C A : Type 0} (t : Text C A) where
  -- the world of the gap before offset k
  abbrev pub gap : ℕ → A → Bool
  gap k a = t.known a k

  pub null-match : (f : Form C A) (s : ℕ) → Null (gap s) f → Match t f s s
  unfolding Null Match
  null-match eps s h = refl
  null-match (take c) s h = absurd h
  null-match (check a) s h = (refl, h)
  null-match (seq f g) s h = (s, null-match f s h.0, null-match g s h.1)
  null-match (alt f g) s (inl h) = inl (null-match f s h)
  null-match (alt f g) s (inr h) = inr (null-match g s h)
  null-match (plus f) s h = (s, done, null-match f s h)
  null-match (opt f) s h = inl refl

  -- a way that stands at a last position ends here
  pub close : (f : Form C A) (b s p e : ℕ) → Reach t f b s p e → Last (gap e) f b p → Match t f s e
  unfolding Reach Last Match
  close eps b s p e r h = absurd r
  close (take c) b s p e r h = (r.1, r.2)
  close (check a) b s p e r h = absurd r
  close (seq f g) b s p e (inl r) (inl h) = (e, close f b s p e r h.0, null-match g e h.1)
  close (seq f g) b s p e (inl r) (inr h) = absurd (omega (arith, reach-inside t f b s p e r, last-inside (gap e) g (b + positions f) p h))
  close (seq f g) b s p e (inr r) (inl h) = absurd (omega (arith, reach-inside t g (b + positions f) r.0 p e r.2, last-inside (gap e) f b p h.0))
  close (seq f g) b s p e (inr r) (inr h) = (r.0, r.1, close g (b + positions f) r.0 p e r.2 h)
  close (alt f g) b s p e (inl r) (inl h) = inl (close f b s p e r h)
  close (alt f g) b s p e (inl r) (inr h) = absurd (omega (arith, reach-inside t f b s p e r, last-inside (gap e) g (b + positions f) p h))
  close (alt f g) b s p e (inr r) (inl h) = absurd (omega (arith, reach-inside t g (b + positions f) s p e r, last-inside (gap e) f b p h))
  close (alt f g) b s p e (inr r) (inr h) = inr (close g (b + positions f) s p e r h)
  close (plus f) b s p e r h = (r.0, r.1, close f b r.0 p e r.2 h)
  close (opt f) b s p e r h = inr (close f b s p e r h)

  -- where a match from s ends: at once, or at a last position
  abbrev pub Ended : Form C A → ℕ → ℕ → ℕ → Type 0
  Ended f b s e = ((s ≡ e) × Null (gap e) f) ⊎ ((p : ℕ) × Reach t f b s p e × Last (gap e) f b p)

  star-ended : (f : Form C A) (b : ℕ) → ((s e : ℕ) → Match t f s e → Ended f b s e) → (s m : ℕ) → Star (Match t f) s m
      → (s ≡ m) ⊎ ((p : ℕ) × Reach t (plus f) b s p m × Last (gap m) f b p)
  unfolding Reach
  star-ended f b ih s m done = inl refl
  star-ended f b ih s m (more {m = n} l r) = elim (ih n m r) [
    | inl h ↦ subst (λ (x : ℕ). (s ≡ x) ⊎ ((p : ℕ) × Reach t (plus f) b s p x × Last (gap x) f b p)) h.0 (star-ended f b ih s n l)
    | inr h ↦ inr (h.0, (n, l, h.1), h.2)
  ]

  pub ended : (f : Form C A) (b s e : ℕ) → Match t f s e → Ended f b s e
  unfolding Match Reach Null Last
  ended eps b s e h = inl (h, tt)
  ended (take c) b s e h = inr (b, (refl, h.0, h.1), refl)
  ended (check a) b s e h = inl (h.0, subst (λ (x : ℕ). T (t.known a x)) h.0 h.1)
  ended (seq f g) b s e h = elim (ended g (b + positions f) h.0 e h.2) [
    | inl y ↦ elim (ended f b s e (subst (λ (x : ℕ). Match t f s x) y.0 h.1)) [
      | inl x ↦ inl (x.0, (x.1, y.1))
      | inr x ↦ inr (x.0, inl x.1, inl (x.2, y.1))
    ]
    | inr y ↦ inr (y.0, inr (h.0, h.1, y.1), inr y.2)
  ]
  ended (alt f g) b s e (inl h) = elim (ended f b s e h) [
    | inl x ↦ inl (x.0, inl x.1)
    | inr x ↦ inr (x.0, inl x.1, inl x.2)
  ]
  ended (alt f g) b s e (inr h) = elim (ended g (b + positions f) s e h) [
    | inl x ↦ inl (x.0, inr x.1)
    | inr x ↦ inr (x.0, inr x.1, inr x.2)
  ]
  ended (plus f) b s e h = elim (ended f b h.0 e h.2) [
    | inl x ↦ elim (star-ended f b (λ s' e' r. ended f b s' e' r) s e (subst (λ (y : ℕ). Star (Match t f) s y) x.0 h.1)) [
      | inl z ↦ inl (z, x.1)
      | inr z ↦ inr z
    ]
    | inr x ↦ inr (x.0, (h.0, h.1, x.1), x.2)
  ]
  ended (opt f) b s e (inl h) = inl (h, tt)
  ended (opt f) b s e (inr h) = elim (ended f b s e h) [
    | inl x ↦ inl (x.0, tt)
    | inr x ↦ inr x
  ]

  -- how a way came to position q by the byte at k: it started there, or went on from p
  abbrev pub Came : Form C A → ℕ → ℕ → ℕ → ℕ → Type 0
  Came f b s q k = ((s ≡ k) × First (gap k) f b q) ⊎ ((p : ℕ) × Reach t f b s p k × Follow (gap k) f b p q)

  pub came : (f : Form C A) (b s q k : ℕ) → Reach t f b s q (suc k) → Came f b s q k
  unfolding Match Reach First Follow
  came eps b s q k r = absurd r
  came (take c) b s q k r = inl (suc_inj r.1, r.0)
  came (check a) b s q k r = absurd r
  came (seq f g) b s q k (inl r) = elim (came f b s q k r) [
    | inl x ↦ inl (x.0, inl x.1)
    | inr x ↦ inr (x.0, inl x.1, inl x.2)
  ]
  came (seq f g) b s q k (inr r) = elim (came g (b + positions f) r.0 q k r.2) [
    | inl y ↦ elim (ended f b s k (subst (λ (x : ℕ). Match t f s x) y.0 r.1)) [
      | inl x ↦ inl (x.0, inr (x.1, y.1))
      | inr x ↦ inr (x.0, inl x.1, inr (inr (x.2, y.1)))
    ]
    | inr y ↦ inr (y.0, inr (r.0, r.1, y.1), inr (inl y.2))
  ]
  came (alt f g) b s q k (inl r) = elim (came f b s q k r) [
    | inl x ↦ inl (x.0, inl x.1)
    | inr x ↦ inr (x.0, inl x.1, inl x.2)
  ]
  came (alt f g) b s q k (inr r) = elim (came g (b + positions f) s q k r) [
    | inl x ↦ inl (x.0, inr x.1)
    | inr x ↦ inr (x.0, inr x.1, inr x.2)
  ]
  came (plus f) b s q k r = elim (came f b r.0 q k r.2) [
    | inl y ↦ elim (star-ended f b (λ s' e' h. ended f b s' e' h) s k (subst (λ (x : ℕ). Star (Match t f) s x) y.0 r.1)) [
      | inl x ↦ inl (x, y.1)
      | inr x ↦ inr (x.0, x.1, inr (x.2, y.1))
    ]
    | inr y ↦ inr (y.0, (r.0, r.1, y.1), inl y.2)
  ]
  came (opt f) b s q k r = came f b s q k r

  module _ (tab : ℕ → C) where
    -- the byte taken is in the position's set
    pub hits : (f : Form C A) (b s q k : ℕ) → Takes tab f b → Reach t f b s q (suc k) → T (t.hit (tab q) k)
    unfolding Reach Takes
    hits eps b s q k a r = absurd r
    hits (take c) b s q k a r = subst₂ (λ (x : C) (y : ℕ). T (t.hit x y)) (sym (ap tab r.0 ∙ a)) (suc_inj r.1) r.2
    hits (check x) b s q k a r = absurd r
    hits (seq f g) b s q k a (inl r) = hits f b s q k a.0 r
    hits (seq f g) b s q k a (inr r) = hits g (b + positions f) r.0 q k a.1 r.2
    hits (alt f g) b s q k a (inl r) = hits f b s q k a.0 r
    hits (alt f g) b s q k a (inr r) = hits g (b + positions f) s q k a.1 r
    hits (plus f) b s q k a r = hits f b r.0 q k a r.2
    hits (opt f) b s q k a r = hits f b s q k a r

    pub enter : (f : Form C A) (b q k : ℕ) → Takes tab f b → First (gap k) f b q → T (t.hit (tab q) k) → Reach t f b k q (suc k)
    unfolding Reach Takes First
    enter eps b q k a h x = absurd h
    enter (take c) b q k a h x = (h, refl, subst (λ (y : C). T (t.hit y k)) (ap tab h ∙ a) x)
    enter (check _) b q k a h x = absurd h
    enter (seq f g) b q k a (inl h) x = inl (enter f b q k a.0 h x)
    enter (seq f g) b q k a (inr h) x = inr (k, null-match f k h.0, enter g (b + positions f) q k a.1 h.1 x)
    enter (alt f g) b q k a (inl h) x = inl (enter f b q k a.0 h x)
    enter (alt f g) b q k a (inr h) x = inr (enter g (b + positions f) q k a.1 h x)
    enter (plus f) b q k a h x = (k, done, enter f b q k a h x)
    enter (opt f) b q k a h x = enter f b q k a h x

    pub go_on : (f : Form C A) (b s p q k : ℕ) → Takes tab f b → Reach t f b s p k → Follow (gap k) f b p q → T (t.hit (tab q) k) → Reach t f b s q (suc k)
    unfolding Reach Takes Follow
    go_on eps b s p q k a r h x = absurd r
    go_on (take c) b s p q k a r h x = absurd h
    go_on (check _) b s p q k a r h x = absurd r
    go_on (seq f g) b s p q k a (inl r) (inl h) x = inl (go_on f b s p q k a.0 r h x)
    go_on (seq f g) b s p q k a (inl r) (inr (inl h)) x =
        absurd (omega (arith, reach-inside t f b s p k r, follow-inside (gap k) g (b + positions f) p q h))
    go_on (seq f g) b s p q k a (inl r) (inr (inr h)) x = inr (k, close f b s p k r h.0, enter g (b + positions f) q k a.1 h.1 x)
    go_on (seq f g) b s p q k a (inr r) (inl h) x =
        absurd (omega (arith, reach-inside t g (b + positions f) r.0 p k r.2, follow-inside (gap k) f b p q h))
    go_on (seq f g) b s p q k a (inr r) (inr (inl h)) x = inr (r.0, r.1, go_on g (b + positions f) r.0 p q k a.1 r.2 h x)
    go_on (seq f g) b s p q k a (inr r) (inr (inr h)) x =
        absurd (omega (arith, reach-inside t g (b + positions f) r.0 p k r.2, last-inside (gap k) f b p h.0))
    go_on (alt f g) b s p q k a (inl r) (inl h) x = inl (go_on f b s p q k a.0 r h x)
    go_on (alt f g) b s p q k a (inl r) (inr h) x =
        absurd (omega (arith, reach-inside t f b s p k r, follow-inside (gap k) g (b + positions f) p q h))
    go_on (alt f g) b s p q k a (inr r) (inl h) x =
        absurd (omega (arith, reach-inside t g (b + positions f) s p k r, follow-inside (gap k) f b p q h))
    go_on (alt f g) b s p q k a (inr r) (inr h) x = inr (go_on g (b + positions f) s p q k a.1 r h x)
    go_on (plus f) b s p q k a r (inl h) x = (r.0, r.1, go_on f b r.0 p q k a r.2 h x)
    go_on (plus f) b s p q k a r (inr h) x = (k, more r.1 (close f b r.0 p k r.2 h.0), enter f b q k a h.1 x)
    go_on (opt f) b s p q k a r h x = go_on f b s p q k a r h x

    -- The step, for the ways that begin at s ..
    pub step : (f : Form C A) (b : ℕ) → Takes tab f b → (s q k : ℕ) → Reach t f b s q (suc k) ↔ (T (t.hit (tab q) k) × Came f b s q k)
    step f b a s q k = (
      λ r. (hits f b s q k a r, came f b s q k r),
      λ h. elim h.1 [
        | inl x ↦ subst (λ (y : ℕ). Reach t f b y q (suc k)) (sym x.0) (enter f b q k a x.1 h.0)
        | inr x ↦ go_on f b s x.0 q k a x.1 x.2 h.0
      ],
    )

    -- .. and for a search that begins anywhere
    pub step-anywhere : (f : Form C A) (b : ℕ) → Takes tab f b → (q k : ℕ) → Reached t f b q (suc k)
        ↔ (T (t.hit (tab q) k) × (First (gap k) f b q ⊎ ((p : ℕ) × Reached t f b p k × Follow (gap k) f b p q)))
    step-anywhere f b a q k = (
      λ l. let h = (step f b a l.0 q k).0 l.1 in
          (h.0, elim h.1 [ inl x ↦ inl x.1 | inr x ↦ inr (x.0, (l.0, x.1), x.2) ]),
      λ h. elim h.1 [
        | inl x ↦ (k, (step f b a k q k).1 (h.0, inl (refl, x)))
        | inr x ↦ (x.1.0, (step f b a x.1.0 q k).1 (h.0, inr (x.0, x.1.1, x.2)))
      ],
    )

  -- The end: a match from s to a later e is a way from s that stands at a last position there.
  pub end : (f : Form C A) (b s e : ℕ) → s < e → Match t f s e ↔ ((p : ℕ) × Reach t f b s p e × Last (gap e) f b p)
  end f b s e lt = (
    λ m. elim (ended f b s e m) [ inl x ↦ absurd (omega (arith, x.0)) | inr x ↦ x ],
    λ r. close f b s r.0 e r.1 r.2,
  )

  -- A form matches the empty span at a gap exactly if it is null in the gap's world.
  pub null_is : (f : Form C A) (s : ℕ) → Null (gap s) f ↔ Match t f s s
  null_is f s = (
    λ h. null-match f s h,
    λ m. elim (ended f 0 s s m) [ inl x ↦ x.1 | inr x ↦ absurd (omega (arith, reach-up t f 0 s x.0 s x.1)) ],
  )
