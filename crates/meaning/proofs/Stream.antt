-- The automaton over a stream of bytes: what is reached up to the bytes so far does not depend on
-- what comes later, what one byte more reaches, and where a match ends. For any assertions, where
-- what is known at the gaps so far stays as it is (`Same`). Assumes nothing.
use mathlib.Core.Path.{◌≡◌, refl, sym, subst, ap₂, fun_ext}
use mathlib.Core.Logic.{◌⊎◌, inl, inr, ◌↔◌}
use mathlib.Core.Bool.{Bool}
use mathlib.Core.List.{List, [], ◌∷◌, ◌++◌}
use Prim.Native.Nat.{ℕ, suc, ◌<◌}
use native.Mathlib.Omega.{arith}
use lib.Dec.{T, ltb, lt→ltb, ltb→lt}
use lib.ListN.{length, get_or, get_or-append, length-append}
use lib.Seq.{get_or-append_seam, take-append_seam, drop-append_seam}
use Rattle.meaning.specs.Tree.{Text}
use Rattle.meaning.specs.Form.{Form, Match, Reach}
use Rattle.meaning.specs.Live.{Reached}
use Rattle.meaning.specs.Gap.{Gap, text}
use Rattle.meaning.proofs.Relations.{First, Last, Follow, Takes}
use Rattle.meaning.proofs.Logic.{and_T}
use Rattle.meaning.proofs.Step.{step, end}
use Rattle.meaning.proofs.Local.{reach-local, reach-up}

-- the gap between these bytes and those, after which the stream has ended or may go on
abbrev pub between : List ℕ → List ℕ → Bool → Gap
between before after ended = record { before = before; after = after; ended = ended }

module _ {C A : Type 0} (has : C → ℕ → Bool) (holds : A → Gap → Bool) where
  abbrev On : List ℕ → Bool → Text C A
  On bs e = text has holds bs e

  -- a byte of the shorter text is one of the longer, and the other way round
  pub hit-longer : (bs r : List ℕ) (d e : Bool) (c : C) (j : ℕ) → T ((On bs d).hit c j) → T ((On (bs ++ r) e).hit c j)
  hit-longer bs r d e c j h =
      let g = (and_T (ltb j (length bs)) (has c (get_or bs j 0))).0 h in
      let lt : j < length bs = ltb→lt j (length bs) g.0 in
      (and_T (ltb j (length (bs ++ r))) (has c (get_or (bs ++ r) j 0))).1
      (lt→ltb j (length (bs ++ r)) (omega (arith, length-append bs r)), subst (λ (x : ℕ). T (has c x)) (sym (get_or-append bs r 0 j lt)) g.1)

  pub hit-shorter : (bs r : List ℕ) (d e : Bool) (c : C) (j : ℕ) → j < length bs → T ((On (bs ++ r) e).hit c j) → T ((On bs d).hit c j)
  hit-shorter bs r d e c j lt h =
      let g = (and_T (ltb j (length (bs ++ r))) (has c (get_or (bs ++ r) j 0))).0 h in
      (and_T (ltb j (length bs)) (has c (get_or bs j 0))).1 (lt→ltb j (length bs) lt, subst (λ (x : ℕ). T (has c x)) (get_or-append bs r 0 j lt) g.1)

  -- the gap at the end of bs, in a text that goes on with r
  pub seam : (bs r : List ℕ) (e : Bool) → ◌≡◌ {A = A → Bool} (λ a. (On (bs ++ r) e).known a (length bs)) (λ a. holds a (between bs r e))
  seam bs r e = fun_ext (λ a. ap₂ (λ (p n : List ℕ). holds a (between p n e)) (take-append_seam bs r) (drop-append_seam bs r))

  -- What is known at the gaps before the end of bs is the same where r follows: d says whether the
  -- stream has ended after bs, e whether it has after r.
  abbrev pub Same : List ℕ → List ℕ → (d e : Bool) → Type 0
  Same bs r d e = (a : A) (j : ℕ) → j < length bs → (On (bs ++ r) e).known a j ≡ (On bs d).known a j

  module _ (bs r : List ℕ) (d e : Bool) (same : Same bs r d e) where
    -- What is reached up to bs depends on bs only.
    pub prefix : (f : Form C A) (b s q : ℕ)
        → Reach (On (bs ++ r) e) f b s q (length bs) ↔ Reach (On bs d) f b s q (length bs)
    prefix f b s q = (
      λ h. reach-local (On (bs ++ r) e) (On bs d) (length bs) (λ c j lt x. hit-shorter bs r d e c j lt x)
          (λ a j lt x. subst T (same a j lt) x) f b s q (length bs) (omega arith) h,
      λ h. reach-local (On bs d) (On (bs ++ r) e) (length bs) (λ c j lt x. hit-longer bs r d e c j x)
          (λ a j lt x. subst T (sym (same a j lt)) x) f b s q (length bs) (omega arith) h,
    )

    -- A match ends after bs, where r follows: a position reached by bs is last in the world between
    -- bs and r.
    pub over : (f : Form C A) (b s : ℕ) → s < length bs → Match (On (bs ++ r) e) f s (length bs)
        ↔ ((p : ℕ) × Reach (On bs d) f b s p (length bs) × Last (λ a. holds a (between bs r e)) f b p)
    over f b s lt =
        let k : ℕ = length bs in
        let both = end (On (bs ++ r) e) f b s k lt in (
          λ m. let h = both.0 m in
              (h.0, (prefix f b s h.0).0 h.1, subst (λ (u : A → Bool). Last u f b h.0) (seam bs r e) h.2),
          λ h. both.1 (h.0, (prefix f b s h.0).1 h.1, subst (λ (u : A → Bool). Last u f b h.0) (sym (seam bs r e)) h.2),
        )

  module _ (tab : ℕ → C) (f : Form C A) (b : ℕ) (takes : Takes tab f b) (bs : List ℕ) (x : ℕ) (d e : Bool) (same : Same bs (x ∷ []) d e) where
    -- One byte more, for the ways that begin at s: from what bs reached to what bs and x reach. The
    -- world is that of the gap between bs and x.
    pub next-from : (s q : ℕ) → Reach (On (bs ++ x ∷ []) e) f b s q (suc (length bs))
        ↔ (T (has (tab q) x)
        × (((s ≡ length bs) × First (λ a. holds a (between bs (x ∷ []) e)) f b q)
        ⊎ ((p : ℕ) × Reach (On bs d) f b s p (length bs) × Follow (λ a. holds a (between bs (x ∷ []) e)) f b p q)))
    next-from s q =
        let k : ℕ = length bs in
        let new : List ℕ = bs ++ x ∷ [] in
        let is_x : get_or new k 0 ≡ x = get_or-append_seam bs x [] 0 in
        let w : ◌≡◌ {A = A → Bool} (λ a. (On new e).known a k) (λ a. holds a (between bs (x ∷ []) e)) =
        seam bs (x ∷ []) e in
        let both = step (On new e) tab f b takes s q k in (
          λ l.
              let h = both.0 l in (
                subst (λ (y : ℕ). T (has (tab q) y)) is_x ((and_T (ltb k (length new)) (has (tab q) (get_or new k 0))).0 h.0).1,
                elim h.1 [
                  | inl v ↦ inl (v.0, subst (λ (u : A → Bool). First u f b q) w v.1)
                  | inr v ↦ inr (v.0, (prefix bs (x ∷ []) d e same f b s v.0).0 v.1, subst (λ (u : A → Bool). Follow u f b v.0 q) w v.2)
                ],
              ),
          λ h. both.1 (
            (and_T (ltb k (length new)) (has (tab q) (get_or new k 0))).1
                (lt→ltb k (length new) (omega (arith, length-append bs (x ∷ []))), subst (λ (y : ℕ). T (has (tab q) y)) (sym is_x) h.0),
            elim h.1 [
              | inl v ↦ inl (v.0, subst (λ (u : A → Bool). First u f b q) (sym w) v.1)
              | inr v ↦ inr (v.0, (prefix bs (x ∷ []) d e same f b s v.0).1 v.1, subst (λ (u : A → Bool). Follow u f b v.0 q) (sym w) v.2)
            ],
          ),
        )

    -- and for a search that begins anywhere
    pub next : (q : ℕ) → Reached (On (bs ++ x ∷ []) e) f b q (suc (length bs))
        ↔ (T (has (tab q) x)
        × (First (λ a. holds a (between bs (x ∷ []) e)) f b q
        ⊎ ((p : ℕ) × Reached (On bs d) f b p (length bs) × Follow (λ a. holds a (between bs (x ∷ []) e)) f b p q)))
    next q = (
      λ l. let h = (next-from l.0 q).0 l.1 in
          (h.0, elim h.1 [ inl v ↦ inl v.1 | inr v ↦ inr (v.0, (l.0, v.1), v.2) ]),
      λ h. elim h.1 [
        | inl v ↦ (length bs, (next-from (length bs) q).1 (h.0, inl (refl, v)))
        | inr v ↦ (v.1.0, (next-from v.1.0 q).1 (h.0, inr (v.0, v.1.1, v.2)))
      ],
    )

  -- Before the first byte nothing is reached.
  pub nothing_yet : (f : Form C A) (b : ℕ) (e : Bool) (q : ℕ) → ¬ Reached (On [] e) f b q 0
  nothing_yet f b e q l = omega (arith, reach-up (On [] e) f b l.0 q 0 l.1)
