-- Least starts over the position automaton. Of the ways that have just taken a position q, the
-- smallest start is, one byte on, the smaller of this offset and the least starts of the positions
-- reached before that q follows; of the matches that end here, the smallest start is the least over
-- the positions that are last. So a machine that keeps one number a position has the start of every
-- report, and knows whether a match is long enough. Assumes nothing.
use mathlib.Core.Path.{◌≡◌, refl, sym, subst}
use mathlib.Core.Logic.{◌⊎◌, inl, inr, ◌↔◌}
use mathlib.Core.Bool.{Bool, true, false, cond, ◌&&◌}
use mathlib.Core.List.{List, [], ◌∷◌, ◌++◌}
use Prim.Native.Nat.{ℕ, suc, ◌+◌, ◌^◌, ◌≤◌, ◌<◌}
use native.Mathlib.Omega.{arith}
use native.Mathlib.Decide.{ℕ_discrete}
use lib.Dec.{T, eqb}
use lib.ListN.{length, get_or, take, drop, length-append}
use lib.Seq.{length-take-le}
use borrow.Author.Tests.{ne_eqb}
use Rattle.sets.specs.Set.{has, smallest}
use Rattle.kinds.specs.Side.{side_of}
use Rattle.meaning.specs.Tree.{Tree, Text, Means}
use Rattle.meaning.specs.Form.{Form, Match, Reach, positions, write}
use Rattle.meaning.specs.Live.{Reached}
use Rattle.meaning.specs.Gap.{last_line, byte, edge, unknown, known_before, known_after}
use Rattle.meaning.specs.Rule.{Rule, Windows, no_windows, InWindows, Assertion, world, holds, ByteSet, stream}
use Rattle.meaning.specs.Ordered.{closing_moment, seen, Least, SettledFrom, Settled, Falls, StartIs}
use Rattle.meaning.proofs.Relations.{First, Last, Follow, Takes}
use Rattle.meaning.proofs.Range.{last-inside, follow-inside}
use Rattle.meaning.proofs.Local.{reach-up}
use Rattle.meaning.proofs.Stream.{Same}
use Rattle.meaning.proofs.Base.{open-same, same, base-next-from, base-over, base-end, reach-ended}
use Rattle.meaning.proofs.Least.{one-least, least-same, least-longest, all-or-none, Capped, capped-least, capped_same, capped-or, smallest-capped}
use Rattle.meaning.proofs.Moments.{EndsFrom, EndsAt, LastFrom, EndsLast, after, from_byte, from_next, from-closing, from_end}

-- ---- what a report's start is

module _ (bytes : List ℕ) (r : Rule) where
  -- A pair is settled exactly if the windows let its smallest settled start through: "the smallest
  -- start whose match is settled then" is long enough.
  pub smallest-inside : (m e s : ℕ) → Least (SettledFrom bytes r m e) s → Settled bytes r m e ↔ InWindows r.windows s e
  smallest-inside m e s h =
      let both = least-longest (SettledFrom bytes r m e) r.windows e s h in (
        λ x. both.0 (x.start, (x.earlier, x.matched), x.inside),
        λ x. record { start = s; earlier = h.there.0; matched = h.there.1; inside = x },
      )

  -- the start of a report, from the smallest settled start
  pub start_is : (m e s : ℕ) → Least (SettledFrom bytes r m e) s → (u : ℕ) → StartIs bytes r m e u ↔ (u ≡ cond r.starts s 0)
  start_is m e s h u = (λ i. to r.starts refl i, λ q. of r.starts refl q)
    where
      to : (b : Bool) → r.starts ≡ b → StartIs bytes r m e u → u ≡ cond b s 0
      to true p i = one-least (SettledFrom bytes r m e) u s (i.leftmost (subst T (sym p) tt)) h
      to false p i = i.without (λ t. subst T p t)

      of : (b : Bool) → r.starts ≡ b → u ≡ cond b s 0 → StartIs bytes r m e u
      of true p q = record { leftmost = λ t. subst (Least (SettledFrom bytes r m e)) (sym q) h; without = λ n. absurd (n (subst T (sym p) tt)) }
      of false p q = record { leftmost = λ t. absurd (subst T p t); without = λ n. q }

  -- a rule without the flag needs no smallest start
  pub start-without : (m e : ℕ) → r.starts ≡ false → (u : ℕ) → StartIs bytes r m e u ↔ (u ≡ 0)
  start-without m e p u = (
    λ i. i.without (λ t. subst T p t),
    λ q. record { leftmost = λ t. absurd (subst T p t); without = λ n. q },
  )

  -- the smallest settled start at each moment: with the pair's last byte, with a later one, at the
  -- closing, and there at the stream's end
  pub least-byte : (e : ℕ) → e ≤ length bytes → (s : ℕ) → Least (SettledFrom bytes r e e) s ↔ Least (EndsFrom bytes r e unknown false) s
  least-byte e le = least-same (SettledFrom bytes r e e) (EndsFrom bytes r e unknown false) (from_byte bytes r e le)

  pub least-late : (m e : ℕ) → e < m → m ≤ length bytes → (s : ℕ) → Least (SettledFrom bytes r m e) s ↔ Least (EndsFrom bytes r e (after bytes r e) false) s
  least-late m e lt ln = least-same (SettledFrom bytes r m e) (EndsFrom bytes r e (after bytes r e) false) (from_next bytes r m e lt ln)

  pub least-line : (e : ℕ) → e < length bytes → (s : ℕ)
      → Least (SettledFrom bytes r (closing_moment bytes) e) s ↔ Least (EndsFrom bytes r e (after bytes r e) (last_line (drop e bytes))) s
  least-line e lt =
      least-same (SettledFrom bytes r (closing_moment bytes) e) (EndsFrom bytes r e (after bytes r e) (last_line (drop e bytes))) (from-closing bytes r e lt)

  pub least-last : (s : ℕ) → Least (SettledFrom bytes r (closing_moment bytes) (length bytes)) s ↔ Least (LastFrom bytes r) s
  least-last = least-same (SettledFrom bytes r (closing_moment bytes) (length bytes)) (LastFrom bytes r) (from_end bytes r)

  -- where the positions are numbered from makes no difference to the starts of the matches that end
  -- with byte k ..
  pub ends-base : (k : ℕ) → k ≤ length bytes → (rest : List ℕ) (e : Bool) → Same has holds (take k bytes) rest false e → (b s : ℕ)
      → EndsFrom bytes r k (known_after rest e) (e && last_line rest) s
      ↔ ((p : ℕ) × Reach (stream (take k bytes) false) (write r.tree) b s p k
      × Last (world (known_before (take k bytes)) (known_after rest e) (e && last_line rest)) (write r.tree) b p)
  ends-base k le rest e stays b s = (
    λ h. let lt : s < k = reach-up (stream (take k bytes) false) (write r.tree) 0 s h.0 k h.1 in (over b lt).0 ((over 0 lt).1 h),
    λ h. let lt : s < k = reach-up (stream (take k bytes) false) (write r.tree) b s h.0 k h.1 in (over 0 lt).0 ((over b lt).1 h),
  )
    where
      over : (b : ℕ) → s < k → Match (stream (take k bytes ++ rest) e) (write r.tree) s k
          ↔ ((p : ℕ) × Reach (stream (take k bytes) false) (write r.tree) b s p k
          × Last (world (known_before (take k bytes)) (known_after rest e) (e && last_line rest)) (write r.tree) b p)
      over b lt =
          let len : length (take k bytes) ≡ k = length-take-le k bytes le in
          subst (λ (i : ℕ). Match (stream (take k bytes ++ rest) e) (write r.tree) s i
          ↔ ((p : ℕ) × Reach (stream (take k bytes) false) (write r.tree) b s p i
          × Last (world (known_before (take k bytes)) (known_after rest e) (e && last_line rest)) (write r.tree) b p)) len
          (base-over (write r.tree) b (take k bytes) rest e stays s (omega (arith, len)))

  -- .. or with the stream
  pub last-base : (b s : ℕ) → LastFrom bytes r s
      ↔ ((p : ℕ) × Reach (stream bytes true) (write r.tree) b s p (length bytes) × Last (world (known_before bytes) edge true) (write r.tree) b p)
  last-base b s = (
    λ h. let lt : s < length bytes = reach-up (stream bytes true) (write r.tree) 0 s h.0 (length bytes) h.1 in
        (base-end (write r.tree) b bytes s lt).0 ((base-end (write r.tree) 0 bytes s lt).1 h),
    λ h. let lt : s < length bytes = reach-up (stream bytes true) (write r.tree) b s h.0 (length bytes) h.1 in
        (base-end (write r.tree) 0 bytes s lt).0 ((base-end (write r.tree) b bytes s lt).1 h),
  )

-- "the same pairs at the same moments": when a pair falls depends on the tree and the windows
-- alone, not on the flag
module _ (bytes : List ℕ) (r u : Rule) (tree : r.tree ≡ u.tree) (windows : r.windows ≡ u.windows) where
  same-settled : (m e : ℕ) → Settled bytes r m e ↔ Settled bytes u m e
  same-settled m e = (
    λ h. record {
      start = h.start;
      earlier = h.earlier;
      matched = subst (λ (t : Tree ByteSet Assertion). Means (seen bytes m) t h.start e) tree h.matched;
      inside = subst (λ (w : Windows). InWindows w h.start e) windows h.inside;
    },
    λ h. record {
      start = h.start;
      earlier = h.earlier;
      matched = subst (λ (t : Tree ByteSet Assertion). Means (seen bytes m) t h.start e) (sym tree) h.matched;
      inside = subst (λ (w : Windows). InWindows w h.start e) (sym windows) h.inside;
    },
  )

  pub same-falls : (m e : ℕ) → Falls bytes r m e → Falls bytes u m e
  same-falls m e h = record {
    from_last = h.from_last;
    by_closing = h.by_closing;
    settled = (same-settled m e).0 h.settled;
    not_before = λ j a c s. h.not_before j a c ((same-settled j e).1 s);
  }

-- windows that are left out keep no match out
pub none-kept-out : (s e : ℕ) → s ≤ e → e < 2 ^ 64 → InWindows no_windows s e
none-kept-out s e le lt = (omega arith, omega arith, omega arith)

-- ---- starts over the automaton

-- the form's positions are numbered from b on, and all are below n
module _ (f : Form ByteSet Assertion) (b n : ℕ) (few : b + positions f ≤ n) where
  -- s is the smallest start of the ways that have just taken the byte before k at position q
  abbrev pub LeastReach : Text ByteSet Assertion → (q k s : ℕ) → Type 0
  LeastReach t q k s = Least (λ u. Reach t f b u q k) s

  -- every position that is reached has its smallest start beside it
  abbrev pub Beside : Text ByteSet Assertion → ℕ → (ℕ → ℕ) → Type 0
  Beside t k starts = (q : ℕ) → Reached t f b q k → LeastReach t q k (starts q)

  -- a match from start s ends with a position that is last in a world
  abbrev pub EndingFrom : Text ByteSet Assertion → ℕ → (Assertion → Bool) → ℕ → Type 0
  EndingFrom t k v s = (p : ℕ) × Reach t f b s p k × Last v f b p

  -- One byte more. The least start of q is the smaller of this offset, where q may be first, and of
  -- the least starts of the positions that q follows. (Each of these is smaller than this offset,
  -- so it makes no difference to take the offset in where q is not first.) Where `ended` is true,
  -- as if x were the last byte.
  module _ (tab : ℕ → ByteSet) (takes : Takes tab f b) (bs : List ℕ) (x : ℕ) (ended : Bool) (starts : ℕ → ℕ) (beside : Beside (stream bs false) (length bs) starts)
      (q : ℕ) (comes : ℕ → Bool)
      (comes-is : (p : ℕ) → p < n
      → T (comes p) ↔ (Reached (stream bs false) f b p (length bs) × Follow (world (known_before bs) (byte (side_of x)) (ended && eqb x 10)) f b p q)) where
    abbrev k : ℕ
    k = length bs

    abbrev here : Assertion → Bool
    here = world (known_before bs) (byte (side_of x)) (ended && eqb x 10)

    abbrev best : ℕ
    best = smallest n comes starts k

    -- how a way from u came to q by byte x
    abbrev Came : ℕ → Type 0
    Came u = ((u ≡ k) × First here f b q) ⊎ ((p : ℕ) × Reach (stream bs false) f b u p k × Follow here f b p q)

    -- it came from a position that is picked out
    abbrev Picked : ℕ → Type 0
    Picked u = (p : ℕ) × (p < n) × T (comes p) × Reach (stream bs false) f b u p k

    picked : (u p : ℕ) → Reach (stream bs false) f b u p k → Follow here f b p q → Picked u
    picked u p r h = let lt : p < n = omega (arith, follow-inside here f b p q h, few) in (p, lt, (comes-is p lt).1 ((u, r), h), r)

    parts : Capped Picked k best
    parts = smallest-capped n comes starts k (λ p u. Reach (stream bs false) f b u p k) (λ p lt c. beside p ((comes-is p lt).0 c).0)

    pub least-next : Reached (stream (bs ++ x ∷ []) ended) f b q (suc (length bs))
        → LeastReach (stream (bs ++ x ∷ []) ended) q (suc (length bs)) (smallest n comes starts (length bs))
    least-next reached = record {
      there = let h = (next reached.0).0 reached.1 in (next best).1 (h.0, go reached.0 h.1 parts.attained);
      least = λ u h. under u ((next u).0 h).1;
    }
      where
        next : (u : ℕ) → Reach (stream (bs ++ x ∷ []) ended) f b u q (suc k) ↔ (T (has (tab q) x) × Came u)
        next u = base-next-from tab f b takes bs x ended u q

        under : (u : ℕ) → Came u → best ≤ u
        under u (inl h) = omega (arith, parts.under, h.0)
        under u (inr h) = parts.below u (picked u h.0 h.1 h.2)

        go : (u : ℕ) → Came u → Picked best ⊎ (best ≡ k) → Came best
        go u c (inl h) = inr (h.0, h.3, ((comes-is h.0 h.1).0 h.2).1)
        go u (inl h) (inr e) = inl (e, h.1)
        go u (inr h) (inr e) = absurd (omega (arith, reach-up (stream bs false) f b u h.0 k h.1, parts.below u (picked u h.0 h.1 h.2)))

  -- Where matches end: the least start is the least over the positions that are last.
  module _ (t : Text ByteSet Assertion) (k : ℕ) (v : Assertion → Bool) (starts : ℕ → ℕ) (beside : Beside t k starts) (ends : ℕ → Bool)
      (ends_is : (p : ℕ) → p < n → T (ends p) ↔ (Reached t f b p k × Last v f b p)) where
    pub ending-capped : (d : ℕ) → Capped (EndingFrom t k v) d (smallest n ends starts d)
    ending-capped d =
        capped_same (λ u. (p : ℕ) × (p < n) × T (ends p) × Reach t f b u p k) (EndingFrom t k v)
        (λ u. (
          λ h. (h.0, h.3, ((ends_is h.0 h.1).0 h.2).1),
          λ h. (h.0, inside h.0 h.2, (ends_is h.0 (inside h.0 h.2)).1 ((u, h.1), h.2), h.1),
        )) d (smallest n ends starts d)
        (smallest-capped n ends starts d (λ p u. Reach t f b u p k) (λ p lt e. beside p ((ends_is p lt).0 e).0))
      where
        inside : (p : ℕ) → Last v f b p → p < n
        inside p h = omega (arith, last-inside v f b p h, few)

    pub least-ending : (d : ℕ) → k ≤ d → (u : ℕ) → EndingFrom t k v u → Least (EndingFrom t k v) (smallest n ends starts d)
    least-ending d le u h =
        let lt : u < k = reach-up t f b u h.0 k h.1 in
        capped-least (EndingFrom t k v) d (smallest n ends starts d) (ending-capped d) u h (omega arith)

    -- some match that the windows let through ends here: exactly if some position is last, and the
    -- windows let the least start through
    pub ending-inside : (w : Windows) (e d : ℕ) → k ≤ d
        → ((u : ℕ) × EndingFrom t k v u × InWindows w u e) ↔ (((p : ℕ) × (p < n) × T (ends p)) × InWindows w (smallest n ends starts d) e)
    ending-inside w e d le = (
      λ h.
          let lt : h.1.0 < n = omega (arith, last-inside v f b h.1.0 h.1.2, few) in (
            (h.1.0, lt, (ends_is h.1.0 lt).1 ((h.0, h.1.1), h.1.2)),
            (least-longest (EndingFrom t k v) w e (smallest n ends starts d) (least-ending d le h.0 h.1)).0 h,
          ),
      λ h.
          let g = (ends_is h.0.0 h.0.1).0 h.0.2 in
          (least-longest (EndingFrom t k v) w e (smallest n ends starts d) (least-ending d le g.0.0 (h.0.0, g.0.1, g.1))).1 h.1,
    )

  -- A rule without a smallest length needs no starts for this: any number up to the end offset will
  -- do.
  pub ending-anyway : (t : Text ByteSet Assertion) (k : ℕ) (v : Assertion → Bool) (ends : ℕ → Bool) → ((p : ℕ) → p < n → T (ends p) ↔ (Reached t f b p k × Last v f b p))
      → (w : Windows) (e s : ℕ) → w.smallest_length ≡ 0 → k ≤ e → s ≤ e
      → ((u : ℕ) × EndingFrom t k v u × InWindows w u e) ↔ (((p : ℕ) × (p < n) × T (ends p)) × InWindows w s e)
  ending-anyway t k v ends ends_is w e s short lk le = (
    λ h.
        let lt : h.1.0 < n = omega (arith, last-inside v f b h.1.0 h.1.2, few) in
        ((h.1.0, lt, (ends_is h.1.0 lt).1 ((h.0, h.1.1), h.1.2)), all-or-none w e s h.0 short le h.2),
    λ h.
        let g = (ends_is h.0.0 h.0.1).0 h.0.2 in
        let lt : g.0.0 < k = reach-up t f b g.0.0 h.0.0 k g.0.1 in
        (g.0.0, (h.0.0, g.0.1, g.1), all-or-none w e g.0.0 s short (omega arith) h.1),
  )

  -- ---- live and held positions

  -- What is reached if the stream ends here is reached while it may go on, or was stepped to over a
  -- last line's end.
  pub reach-either : (tab : ℕ → ByteSet) → Takes tab f b → (bs : List ℕ) (x s q : ℕ) → Reach (stream (bs ++ x ∷ []) true) f b s q (suc (length bs))
      ↔ (Reach (stream (bs ++ x ∷ []) false) f b s q (suc (length bs)) ⊎ ((x ≡ 10) × Reach (stream (bs ++ x ∷ []) true) f b s q (suc (length bs))))
  reach-either tab takes bs x s q = (
    λ h. elim (ℕ_discrete x 10) [
      | yes e ↦ inr (e, h)
      | no ne ↦ inl ((base-next-from tab f b takes bs x false s q).1 (subst (λ (z : Bool). Came z) (ne_eqb x 10 ne) ((base-next-from tab f b takes bs x true s q).0 h)))
    ],
    λ h. elim h [
      | inl l ↦ subst (λ (j : ℕ). Reach (stream (bs ++ x ∷ []) true) f b s q j) len
          (reach-ended f b (bs ++ x ∷ []) s q (subst (λ (j : ℕ). Reach (stream (bs ++ x ∷ []) false) f b s q j) (sym len) l))
      | inr l ↦ l.1
    ],
  )
    where
      len : length (bs ++ x ∷ []) ≡ suc (length bs)
      len = omega (arith, length-append bs (x ∷ []))

      Came : Bool → Type 0
      Came z = T (has (tab q) x) × (((s ≡ length bs) × First (world (known_before bs) (byte (side_of x)) z) f b q)
          ⊎ ((p : ℕ) × Reach (stream bs false) f b s p (length bs) × Follow (world (known_before bs) (byte (side_of x)) z) f b p q))

  -- At the stream's end: the smaller of the least start over the live positions that are last, and
  -- of that over the held ones.
  module _ (tab : ℕ → ByteSet) (takes : Takes tab f b) (bs : List ℕ) (x : ℕ) (v : Assertion → Bool)
      (live : ℕ → ℕ) (live-beside : Beside (stream (bs ++ x ∷ []) false) (suc (length bs)) live)
      (held : ℕ → ℕ) (held-beside : x ≡ 10 → Beside (stream (bs ++ x ∷ []) true) (suc (length bs)) held)
      (live-ends held-ends : ℕ → Bool)
      (live_is : (p : ℕ) → p < n → T (live-ends p) ↔ (Reached (stream (bs ++ x ∷ []) false) f b p (suc (length bs)) × Last v f b p))
      (held_is : (p : ℕ) → p < n → T (held-ends p) ↔ ((x ≡ 10) × Reached (stream (bs ++ x ∷ []) true) f b p (suc (length bs)) × Last v f b p)) where
    pub closing-capped : (d : ℕ) → Capped (EndingFrom (stream (bs ++ x ∷ []) true) (suc (length bs)) v) d (smallest n held-ends held (smallest n live-ends live d))
    closing-capped d =
        let k : ℕ = suc (length bs) in
        let low : ℕ = smallest n live-ends live d in
        let inside : (p : ℕ) → Last v f b p → p < n = λ p h. omega (arith, last-inside v f b p h, few) in
        capped_same
        (λ u. EndingFrom (stream (bs ++ x ∷ []) false) k v u ⊎ ((p : ℕ) × (p < n) × T (held-ends p) × Reach (stream (bs ++ x ∷ []) true) f b u p k))
        (EndingFrom (stream (bs ++ x ∷ []) true) k v)
        (λ u. (
          λ h. elim h [
            | inl l ↦ (l.0, (reach-either tab takes bs x u l.0).1 (inl l.1), l.2)
            | inr l ↦ (l.0, l.3, ((held_is l.0 l.1).0 l.2).2)
          ],
          λ h. elim ((reach-either tab takes bs x u h.0).0 h.1) [
            | inl l ↦ inl (h.0, l, h.2)
            | inr l ↦ inr (h.0, inside h.0 h.2, (held_is h.0 (inside h.0 h.2)).1 (l.0, (u, l.1), h.2), l.1)
          ],
        )) d (smallest n held-ends held low)
        (capped-or (EndingFrom (stream (bs ++ x ∷ []) false) k v) (λ u. (p : ℕ) × (p < n) × T (held-ends p) × Reach (stream (bs ++ x ∷ []) true) f b u p k) d low (smallest n held-ends held low)
        (ending-capped (stream (bs ++ x ∷ []) false) k v live live-beside live-ends live_is d)
        (smallest-capped n held-ends held low (λ p u. Reach (stream (bs ++ x ∷ []) true) f b u p k)
        (λ p lt e. let g = (held_is p lt).0 e in held-beside g.0 p g.1)))

    pub closing-least : (d : ℕ) → suc (length bs) ≤ d → (u : ℕ) → EndingFrom (stream (bs ++ x ∷ []) true) (suc (length bs)) v u
        → Least (EndingFrom (stream (bs ++ x ∷ []) true) (suc (length bs)) v) (smallest n held-ends held (smallest n live-ends live d))
    closing-least d le u h =
        let lt : u < suc (length bs) = reach-up (stream (bs ++ x ∷ []) true) f b u h.0 (suc (length bs)) h.1 in
        capped-least (EndingFrom (stream (bs ++ x ∷ []) true) (suc (length bs)) v) d (smallest n held-ends held (smallest n live-ends live d)) (closing-capped d) u h (omega arith)

-- ---- the start of a report, from the positions

-- of a rule whose positions are numbered from b on, all below n
module _ (bytes : List ℕ) (r : Rule) (b n : ℕ) (few : b + positions (write r.tree) ≤ n) where
  -- the starts of the matches that end with byte e, by the positions reached then and a world
  abbrev pub FromByte : ℕ → (Assertion → Bool) → ℕ → Type 0
  FromByte e v = EndingFrom (write r.tree) b n few (stream (take e bytes) false) e v

  -- some match that the windows let through ends there: `ending-inside` and `ending-anyway` say
  -- when, by tests on positions
  pub ends-at-base : (e : ℕ) → e ≤ length bytes → (rest : List ℕ) (ended : Bool) → Same has holds (take e bytes) rest false ended
      → EndsAt bytes r e (known_after rest ended) (ended && last_line rest)
      ↔ ((u : ℕ) × FromByte e (world (known_before (take e bytes)) (known_after rest ended) (ended && last_line rest)) u × InWindows r.windows u e)
  ends-at-base e le rest ended stays = (
    λ h. (h.0, (ends-base bytes r e le rest ended stays b h.0).0 h.1, h.2),
    λ h. (h.0, (ends-base bytes r e le rest ended stays b h.0).1 h.1, h.2),
  )

  pub ends-last-base : EndsLast bytes r
      ↔ ((u : ℕ) × EndingFrom (write r.tree) b n few (stream bytes true) (length bytes) (world (known_before bytes) edge true) u × InWindows r.windows u (length bytes))
  ends-last-base = (
    λ h. (h.0, (last-base bytes r b h.0).0 h.1, h.2),
    λ h. (h.0, (last-base bytes r b h.0).1 h.1, h.2),
  )

  -- of a pair that falls with its last byte ..
  pub start-own : (e : ℕ) → e ≤ length bytes → (s : ℕ) → Least (FromByte e (world (known_before (take e bytes)) unknown false)) s
      → (u : ℕ) → StartIs bytes r e e u ↔ (u ≡ cond r.starts s 0)
  start-own e le s h =
      start_is bytes r e e s ((least-byte bytes r e le s).1
      ((least-same (FromByte e (world (known_before (take e bytes)) unknown false)) (EndsFrom bytes r e unknown false)
      (λ u. let i = ends-base bytes r e le [] false (open-same (take e bytes) []) b u in (i.1, i.0)) s).0 h))

  -- .. with the next one ..
  pub start-late : (e : ℕ) → e < length bytes → (s : ℕ) → Least (FromByte e (world (known_before (take e bytes)) (after bytes r e) false)) s
      → (u : ℕ) → StartIs bytes r (suc e) e u ↔ (u ≡ cond r.starts s 0)
  start-late e lt s h =
      start_is bytes r (suc e) e s ((least-late bytes r (suc e) e (omega arith) lt s).1
      ((least-same (FromByte e (world (known_before (take e bytes)) (after bytes r e) false)) (EndsFrom bytes r e (after bytes r e) false)
      (λ u. let i = ends-base bytes r e (omega arith) (get_or bytes e 0 ∷ []) false (open-same (take e bytes) (get_or bytes e 0 ∷ [])) b u in (i.1, i.0)) s).0 h))

  -- .. at the closing, before the last byte ..
  pub start-line : (e : ℕ) → e < length bytes → last_line (drop e bytes) ≡ eqb (get_or bytes e 0) 10 → (s : ℕ)
      → Least (FromByte e (world (known_before (take e bytes)) (after bytes r e) (eqb (get_or bytes e 0) 10))) s
      → (u : ℕ) → StartIs bytes r (closing_moment bytes) e u ↔ (u ≡ cond r.starts s 0)
  start-line e lt line s h =
      start_is bytes r (closing_moment bytes) e s ((least-line bytes r e lt s).1
      (subst (λ (z : Bool). Least (EndsFrom bytes r e (after bytes r e) z) s) (sym line)
      ((least-same (FromByte e (world (known_before (take e bytes)) (after bytes r e) (eqb (get_or bytes e 0) 10))) (EndsFrom bytes r e (after bytes r e) (eqb (get_or bytes e 0) 10))
      (λ u. let i = ends-base bytes r e (omega arith) (get_or bytes e 0 ∷ []) true (same (take e bytes) (get_or bytes e 0) [] true) b u in (i.1, i.0)) s).0 h)))

  -- .. and at the stream's end
  pub start-end : (s : ℕ) → Least (EndingFrom (write r.tree) b n few (stream bytes true) (length bytes) (world (known_before bytes) edge true)) s
      → (u : ℕ) → StartIs bytes r (closing_moment bytes) (length bytes) u ↔ (u ≡ cond r.starts s 0)
  start-end s h =
      start_is bytes r (closing_moment bytes) (length bytes) s ((least-last bytes r s).1
      ((least-same (EndingFrom (write r.tree) b n few (stream bytes true) (length bytes) (world (known_before bytes) edge true)) (LastFrom bytes r)
      (λ u. let i = last-base bytes r b u in (i.1, i.0)) s).0 h))
