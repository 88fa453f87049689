-- The marks are least starts. E s m says that a start s may come to the form at gap m; the marks
-- hold at gap k if each position has the least s with a way from some such m that has just taken
-- the byte before k there. Then what can end, what is behind the form and what the next byte leaves
-- are least starts too. By the form's structure: what comes to the second part of a sequence is
-- what the first lets pass, what comes to a repeated part is what comes through any number of
-- copies. Assumes nothing.
use mathlib.Core.Path.{◌≡◌, refl, subst, ap, ◌∙◌}
use mathlib.Core.Logic.{◌⊎◌, inl, inr, ◌↔◌}
use mathlib.Core.Bool.{Bool}
use mathlib.Core.List.{List}
use Prim.Native.Nat.{ℕ, suc, ◌+◌, min, ◌≤◌, ◌<◌}
use native.Mathlib.Nat.{suc_inj}
use native.Mathlib.Omega.{arith}
use native.Mathlib.Decide.{dec_lt}
use lib.Dec.{T}
use lib.ListN.{length, get_or, set}
use lib.Seq.{get_or-set_same}
use Rattle.meaning.specs.Tree.{Text}
use Rattle.meaning.specs.Form.{Form, eps, take, check, seq, alt, plus, opt, Star, done, more, Match, positions, Reach}
use Rattle.meaning.specs.Automaton.{null}
use Rattle.meaning.proofs.Local.{match-up}
use Rattle.meaning.proofs.Range.{Inside, reach-inside}
use Rattle.meaning.proofs.Step.{null_is}
use Rattle.meaning.proofs.Computed.{null-T}
use Rattle.marks.specs.Marks.{when, ends, past, moved}
use Rattle.marks.proofs.Least.{Least, least_iff, least-as, least-none, least-min, least-cap, least-when}
use Rattle.marks.proofs.Moving.{moved-long, moved-outside}

-- steps that stay where they are can be left out
shorten : (R : ℕ → ℕ → Type 0) → ((s e : ℕ) → R s e → s ≤ e) → (s e : ℕ) → Star R s e → (s ≡ e) ⊎ ((m : ℕ) × (m < e) × Star R s m × R m e)
shorten R up s e done = inl refl
shorten R up s e (more {m = m} l r) = elim (dec_lt m e) [
  | yes lt ↦ inr (m, lt, l, r)
  | no ge ↦ let q : m ≡ e = omega (arith, up m e r) in
      subst (λ (x : ℕ). (s ≡ x) ⊎ ((m : ℕ) × (m < x) × Star R s m × R m x)) q (shorten R up s m l)
]

module _ {C A : Type 0} (t : Text C A) where
  -- what comes to the second part of a sequence, and to a repeated part
  abbrev Through : (ℕ → ℕ → Type 0) → Form C A → ℕ → ℕ → Type 0
  Through E f s e = (m : ℕ) × E s m × Match t f m e

  abbrev Around : (ℕ → ℕ → Type 0) → Form C A → ℕ → ℕ → Type 0
  Around E f s e = (m : ℕ) × E s m × Star (Match t f) m e

  -- a start with which a way stands at position q at gap k
  abbrev pub Stands : (ℕ → ℕ → Type 0) → Form C A → (b k q s : ℕ) → Type 0
  Stands E f b k q s = (m : ℕ) × E s m × Reach t f b m q k

  abbrev pub Held : (ℕ → ℕ → Type 0) → Form C A → (b k : ℕ) → List ℕ → Type 0
  Held E f b k ms = (q : ℕ) → Inside f b q → Least (Stands E f b k q) (get_or ms q 0)

  -- ---- the parts of a form whose marks hold

  module _ (E : ℕ → ℕ → Type 0) (b k q : ℕ) where
    in-first : (f g : Form C A) → q < b + positions f → (s : ℕ) → Stands E (seq f g) b k q s ↔ Stands E f b k q s
    unfolding Reach
    in-first f g lt s = (
      λ h. elim h.2 [
        | inl r ↦ (h.0, h.1, r)
        | inr r ↦ absurd (omega (arith, reach-inside t g (b + positions f) r.0 q k r.2))
      ],
      λ h. (h.0, h.1, inl h.2),
    )

    in-second : (f g : Form C A) → b + positions f ≤ q → (s : ℕ) → Stands E (seq f g) b k q s ↔ Stands (Through E f) g (b + positions f) k q s
    unfolding Reach
    in-second f g le s = (
      λ h. elim h.2 [
        | inl r ↦ absurd (omega (arith, reach-inside t f b h.0 q k r))
        | inr r ↦ (r.0, (h.0, h.1, r.1), r.2)
      ],
      λ h. (h.1.0, h.1.1, inr (h.0, h.1.2, h.2)),
    )

    in_left : (f g : Form C A) → q < b + positions f → (s : ℕ) → Stands E (alt f g) b k q s ↔ Stands E f b k q s
    unfolding Reach
    in_left f g lt s = (
      λ h. elim h.2 [
        | inl r ↦ (h.0, h.1, r)
        | inr r ↦ absurd (omega (arith, reach-inside t g (b + positions f) h.0 q k r))
      ],
      λ h. (h.0, h.1, inl h.2),
    )

    in_right : (f g : Form C A) → b + positions f ≤ q → (s : ℕ) → Stands E (alt f g) b k q s ↔ Stands E g (b + positions f) k q s
    unfolding Reach
    in_right f g le s = (
      λ h. elim h.2 [
        | inl r ↦ absurd (omega (arith, reach-inside t f b h.0 q k r))
        | inr r ↦ (h.0, h.1, r)
      ],
      λ h. (h.0, h.1, inr h.2),
    )

    in-copy : (f : Form C A) (s : ℕ) → Stands E (plus f) b k q s ↔ Stands (Around E f) f b k q s
    unfolding Reach
    in-copy f s = (λ h. (h.2.0, (h.0, h.1, h.2.1), h.2.2), λ h. (h.1.0, h.1.1, (h.0, h.1.2, h.2)))

  module _ (E : ℕ → ℕ → Type 0) (b k : ℕ) (ms : List ℕ) where
    held_first : (f g : Form C A) → Held E (seq f g) b k ms → Held E f b k ms
    unfolding positions
    held_first f g h q i = least_iff (in-first E b k q f g i.1) (h q (omega arith))

    held-second : (f g : Form C A) → Held E (seq f g) b k ms → Held (Through E f) g (b + positions f) k ms
    unfolding positions
    held-second f g h q i = least_iff (in-second E b k q f g i.0) (h q (omega arith))

    held-left : (f g : Form C A) → Held E (alt f g) b k ms → Held E f b k ms
    unfolding positions
    held-left f g h q i = least_iff (in_left E b k q f g i.1) (h q (omega arith))

    held-right : (f g : Form C A) → Held E (alt f g) b k ms → Held E g (b + positions f) k ms
    unfolding positions
    held-right f g h q i = least_iff (in_right E b k q f g i.0) (h q (omega arith))

    held-copy : (f : Form C A) → Held E (plus f) b k ms → Held (Around E f) f b k ms
    unfolding positions
    held-copy f h q i = least_iff (in-copy E b k q f) (h q i)

  -- ---- what can end

  module _ (k : ℕ) where
    -- the world of the gap, and the sets that have the byte after it
    abbrev pub here : A → Bool
    here a = t.known a k

    abbrev pub byte : C → Bool
    byte c = t.hit c k

    null-here : (f : Form C A) → T (null here f) ↔ Match t f k k
    null-here f = (λ h. (null_is t f k).0 ((null-T here f).0 h), λ h. (null-T here f).1 ((null_is t f k).1 h))

    -- a start of a match that ends here and has a byte in the form
    abbrev pub Ends : (ℕ → ℕ → Type 0) → Form C A → ℕ → Type 0
    Ends E f s = (m : ℕ) × (m < k) × E s m × Match t f m k

    ends-seq : (E : ℕ → ℕ → Type 0) (f g : Form C A) (s : ℕ) → ((Match t g k k × Ends E f s) ⊎ Ends (Through E f) g s) ↔ Ends E (seq f g) s
    unfolding Match
    ends-seq E f g s = (
      λ h. elim h [
        | inl x ↦ (x.1.0, x.1.1, x.1.2, (k, x.1.3, x.0))
        | inr x ↦ (x.2.0, omega (arith, x.1, match-up t f x.2.0 x.0 x.2.2), x.2.1, (x.0, x.2.2, x.3))
      ],
      λ h. elim (dec_lt h.3.0 k) [
        | yes lt ↦ inr (h.3.0, lt, (h.0, h.2, h.3.1), h.3.2)
        | no ge ↦ let q : h.3.0 ≡ k = omega (arith, match-up t g h.3.0 k h.3.2) in
            inl (subst (λ (x : ℕ). Match t g x k) q h.3.2, (h.0, h.1, h.2, subst (λ (x : ℕ). Match t f h.0 x) q h.3.1))
      ],
    )

    ends-copy : (E : ℕ → ℕ → Type 0) (f : Form C A) (s : ℕ) → Ends (Around E f) f s ↔ Ends E (plus f) s
    unfolding Match
    ends-copy E f s = (
      λ h. (h.2.0, omega (arith, h.1, star-low h.2.0 h.0 h.2.2), h.2.1, (h.0, h.2.2, h.3)),
      λ h. elim (dec_lt h.3.0 k) [
        | yes lt ↦ (h.3.0, lt, (h.0, h.2, h.3.1), h.3.2)
        | no ge ↦ let q : h.3.0 ≡ k = omega (arith, match-up t f h.3.0 k h.3.2) in
            elim (shorten (Match t f) (match-up t f) h.0 k (subst (λ (x : ℕ). Star (Match t f) h.0 x) q h.3.1)) [
              | inl e ↦ absurd (omega (arith, h.1))
              | inr x ↦ (x.0, x.1, (h.0, h.2, x.2), x.3)
            ]
      ],
    )
      where
        star-low : (s e : ℕ) → Star (Match t f) s e → s ≤ e
        star-low s e done = omega arith
        star-low s e (more {m = m} l r) = omega (arith, star-low s m l, match-up t f m e r)

    pub ends-least : (f : Form C A) (b : ℕ) (E : ℕ → ℕ → Type 0) (ms : List ℕ) → Held E f b k ms → Least (Ends E f) (ends here f b ms)
    unfolding ends Match Reach positions
    ends-least eps b E ms h = least-none (λ s x. omega (arith, x.1, x.3))
    ends-least (take c) b E ms h =
        least-cap (least_iff (λ s. (λ x. (x.0, omega (arith, x.2.1), x.1, (x.2.1, x.2.2)), λ x. (x.0, x.2, (refl, x.3.0, x.3.1)))) (h b (omega arith)))
    ends-least (check a) b E ms h = least-none (λ s x. omega (arith, x.1, x.3.0))
    ends-least (seq f g) b E ms h =
        least_iff (ends-seq E f g)
        (least-min (least-when (null here g) (null-here g) (ends-least f b E ms (held_first E b k ms f g h)))
        (ends-least g (b + positions f) (Through E f) ms (held-second E b k ms f g h)))
    ends-least (alt f g) b E ms h =
        least_iff (λ s. (
          λ x. elim x [ inl y ↦ (y.0, y.1, y.2, inl y.3) | inr y ↦ (y.0, y.1, y.2, inr y.3) ],
          λ x. elim x.3 [ inl y ↦ inl (x.0, x.1, x.2, y) | inr y ↦ inr (x.0, x.1, x.2, y) ],
        ))
        (least-min (ends-least f b E ms (held-left E b k ms f g h)) (ends-least g (b + positions f) E ms (held-right E b k ms f g h)))
    ends-least (plus f) b E ms h = least_iff (ends-copy E f) (ends-least f b (Around E f) ms (held-copy E b k ms f h))
    ends-least (opt f) b E ms h =
        least_iff (λ s. (
          λ x. (x.0, x.1, x.2, inr x.3),
          λ x. elim x.3 [ inl y ↦ absurd (omega (arith, x.1)) | inr y ↦ (x.0, x.1, x.2, y) ],
        ))
        (ends-least f b E ms h)

    -- what is behind the form
    pub past-least : (f : Form C A) (b : ℕ) (E : ℕ → ℕ → Type 0) (i : ℕ) (ms : List ℕ) → Held E f b k ms → Least (λ s. E s k) i
        → Least (λ s. Through E f s k) (past here f b i ms)
    unfolding past
    past-least f b E i ms h come =
        least_iff (λ s. (
          λ x. elim x [ inl y ↦ (k, y.1, y.0) | inr y ↦ (y.0, y.2, y.3) ],
          λ x. elim (dec_lt x.0 k) [
            | yes lt ↦ inr (x.0, lt, x.1, x.2)
            | no ge ↦ let q : x.0 ≡ k = omega (arith, match-up t f x.0 k x.2) in
                inl (subst (λ (m : ℕ). Match t f m k) q x.2, subst (λ (m : ℕ). E s m) q x.1)
          ],
        ))
        (least-min (least-when (null here f) (null-here f) come) (ends-least f b E ms h))

    -- what comes to a repeated part
    around-least : (f : Form C A) (b : ℕ) (E : ℕ → ℕ → Type 0) (i : ℕ) (ms : List ℕ) → Held (Around E f) f b k ms → Least (λ s. E s k) i
        → Least (λ s. Around E f s k) (min i (ends here f b ms))
    around-least f b E i ms h come =
        least_iff (λ s. (
          λ x. elim x [ inl y ↦ (k, y, done) | inr y ↦ (y.2.0, y.2.1, more y.2.2 y.3) ],
          λ x. elim (shorten (Match t f) (match-up t f) x.0 k x.2) [
            | inl q ↦ inl (subst (λ (m : ℕ). E s m) q x.1)
            | inr y ↦ inr (y.0, y.1, (x.0, x.1, y.2), y.3)
          ],
        ))
        (least-min come (ends-least f b (Around E f) ms h))

    -- ---- the next byte

    pub moved-held : (f : Form C A) (b : ℕ) (E : ℕ → ℕ → Type 0) (i : ℕ) (ms : List ℕ) → b + positions f ≤ length ms → Held E f b k ms → Least (λ s. E s k) i
        → Held E f b (suc k) (moved here byte f b i ms)
    unfolding moved positions Reach
    moved-held eps b E i ms room h come q l = absurd (omega arith)
    moved-held (take c) b E i ms room h come q l =
        let at : q ≡ b = omega arith in
        least-as (ap (λ (x : ℕ). get_or (set ms b (when (byte c) i)) x 0) at ∙ get_or-set_same ms b (when (byte c) i) 0 (omega arith))
        (least_iff (λ s. (
          λ x. (k, x.1, (at, refl, x.0)),
          λ x. let e : x.0 ≡ k = suc_inj x.2.1 in (subst (λ (m : ℕ). T (t.hit c m)) e x.2.2, subst (λ (m : ℕ). E s m) e x.1),
        ))
        (least-when (byte c) (λ x. x, λ x. x) come))
    moved-held (check a) b E i ms room h come q l = absurd (omega arith)
    moved-held (seq f g) b E i ms room h come q l = elim (dec_lt q (b + positions f)) [
      | yes lt ↦
          least-as (moved-outside here byte g (b + positions f) (past here f b i ms) (moved here byte f b i ms) q (λ m. omega arith))
          (least_iff (λ s. let e = in-first E b (suc k) q f g lt s in (e.1, e.0))
          (moved-held f b E i ms (omega arith) (held_first E b k ms f g h) come q (omega arith)))
      | no ge ↦
          least_iff (λ s. let e = in-second E b (suc k) q f g (omega arith) s in (e.1, e.0))
          (moved-held g (b + positions f) (Through E f) (past here f b i ms) (moved here byte f b i ms) (omega (arith, moved-long here byte f b i ms))
          (λ p m. least-as (moved-outside here byte f b i ms p (λ o. omega arith)) (held-second E b k ms f g h p m))
          (past-least f b E i ms (held_first E b k ms f g h) come) q (omega arith))
    ]
    moved-held (alt f g) b E i ms room h come q l = elim (dec_lt q (b + positions f)) [
      | yes lt ↦
          least-as (moved-outside here byte g (b + positions f) i (moved here byte f b i ms) q (λ m. omega arith))
          (least_iff (λ s. let e = in_left E b (suc k) q f g lt s in (e.1, e.0))
          (moved-held f b E i ms (omega arith) (held-left E b k ms f g h) come q (omega arith)))
      | no ge ↦
          least_iff (λ s. let e = in_right E b (suc k) q f g (omega arith) s in (e.1, e.0))
          (moved-held g (b + positions f) E i (moved here byte f b i ms) (omega (arith, moved-long here byte f b i ms))
          (λ p m. least-as (moved-outside here byte f b i ms p (λ o. omega arith)) (held-right E b k ms f g h p m)) come q (omega arith))
    ]
    moved-held (plus f) b E i ms room h come q l =
        least_iff (λ s. let e = in-copy E b (suc k) q f s in (e.1, e.0))
        (moved-held f b (Around E f) (min i (ends here f b ms)) ms room (held-copy E b k ms f h) (around-least f b E i ms (held-copy E b k ms f h) come) q l)
    moved-held (opt f) b E i ms room h come q l = moved-held f b E i ms room h come q l
