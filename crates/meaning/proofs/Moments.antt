-- When a pair falls: with its last byte if some way of it is known to hold before the next byte is;
-- else with the next byte, which tells all but whether the last line ends there; else at the
-- closing, where the last offset can, and the one before a last newline. What is settled at a
-- moment is read off the positions reached by the pair's own bytes, and the world that follows
-- them. Assumes nothing.
use mathlib.Core.Path.{◌≡◌, refl, sym, subst, subst₂, ap, ap₂, ◌∙◌}
use mathlib.Core.Logic.{◌⊎◌, inl, inr, ◌↔◌}
use mathlib.Core.Bool.{Bool, true, false, ◌&&◌}
use mathlib.Core.List.{List, [], ◌∷◌, ◌++◌}
use Prim.Native.Nat.{ℕ, zero, suc, ◌+◌, ◌-◌, ◌≤◌, ◌<◌}
use native.Mathlib.Omega.{arith}
use native.Mathlib.Decide.{dec_lt, dec_le}
use lib.Dec.{ltb, ltb→lt, lt→ltb}
use lib.ListN.{length, get_or, take, drop, length-take, take-append-drop, drop_of_length-le}
use lib.Seq.{length-take-le, take_all, take-take, drop-cons, get_or-take}
use Rattle.sets.specs.Set.{has}
use Rattle.kinds.specs.Side.{side_of}
use Rattle.meaning.specs.Tree.{Means}
use Rattle.meaning.specs.Form.{Form, Match, Reach, write}
use Rattle.meaning.specs.Gap.{last_line, Known, byte, edge, unknown, known_before, known_after}
use Rattle.meaning.specs.Rule.{Rule, InWindows, Assertion, world, holds, ByteSet, stream, MatchEnds}
use Rattle.meaning.specs.Ordered.{closing_moment, end_known, seen, SettledFrom, Settled, Falls}
use Rattle.meaning.proofs.Relations.{Last}
use Rattle.meaning.proofs.Logic.{and_T, true-T, false-T}
use Rattle.meaning.proofs.Written.{written, unwritten}
use Rattle.meaning.proofs.Step.{end}
use Rattle.meaning.proofs.Local.{reach-up, reach-short}
use Rattle.meaning.proofs.Worlds.{last_more}
use Rattle.meaning.proofs.Stream.{Same}
use Rattle.meaning.proofs.Base.{next_known, open-same, ended_same, base-over, base-end, line-more, known_more, reach-ended}
use Rattle.meaning.proofs.OneList.{settled-dec}

pub before-closing : (bytes : List ℕ) (m : ℕ) → m ≤ length bytes → end_known bytes m ≡ false
before-closing bytes m le = false-T (end_known bytes m) (λ h. omega (arith, ltb→lt (length bytes) m h))

at-closing : (bytes : List ℕ) → end_known bytes (closing_moment bytes) ≡ true
at-closing bytes = true-T (end_known bytes (closing_moment bytes)) (lt→ltb (length bytes) (closing_moment bytes) (omega arith))

module _ (bytes : List ℕ) (r : Rule) where
  abbrev n : ℕ
  n = length bytes

  abbrev f : Form ByteSet Assertion
  f = write r.tree

  -- some way through the rule from start s ends with the byte before offset e, where this is known
  -- of the next byte, and the last line ends if z says so
  abbrev pub EndsFrom : ℕ → Known → Bool → ℕ → Type 0
  EndsFrom e after z s = (p : ℕ) × Reach (stream (take e bytes) false) f 0 s p e × Last (world (known_before (take e bytes)) after z) f 0 p

  -- from some start that the rule's windows let through
  abbrev pub EndsAt : ℕ → Known → Bool → Type 0
  EndsAt e after z = (s : ℕ) × EndsFrom e after z s × InWindows r.windows s e

  -- the next byte
  abbrev pub after : ℕ → Known
  after e = byte (side_of (get_or bytes e 0))

  -- some way from start s ends where the stream does; from some start that the windows let through
  abbrev pub LastFrom : ℕ → Type 0
  LastFrom s = (p : ℕ) × Reach (stream bytes true) f 0 s p n × Last (world (known_before bytes) edge true) f 0 p

  abbrev pub EndsLast : Type 0
  EndsLast = (s : ℕ) × LastFrom s × InWindows r.windows s n

  -- a pair is settled from some start that the windows let through
  some-inside : (m e : ℕ) (Q : ℕ → Type 0) → ((s : ℕ) → SettledFrom bytes r m e s ↔ Q s) → Settled bytes r m e ↔ ((s : ℕ) × Q s × InWindows r.windows s e)
  some-inside m e Q is = (
    λ h. (h.start, (is h.start).0 (h.earlier, h.matched), h.inside),
    λ h. let g = (is h.0).1 h.1 in record { start = h.0; earlier = g.0; matched = g.1; inside = h.2 },
  )

  -- the pair's own bytes, and those known after them
  split : (m e : ℕ) → e ≤ m → take e bytes ++ drop e (take m bytes) ≡ take m bytes
  split m e le = ap (λ (l : List ℕ). l ++ drop e (take m bytes)) (sym (take-take e m bytes le)) ∙ take-append-drop e (take m bytes)

  -- what is settled at moment m, where the bytes known after the pair's own tell nothing new of the
  -- gaps before
  from_is : (m e : ℕ) → e ≤ m → e ≤ n → Same has holds (take e bytes) (drop e (take m bytes)) false (end_known bytes m)
      → (k : Known) (z : Bool) → known_after (drop e (take m bytes)) (end_known bytes m) ≡ k → (end_known bytes m && last_line (drop e (take m bytes))) ≡ z
      → (s : ℕ) → SettledFrom bytes r m e s ↔ EndsFrom e k z s
  from_is m e le ln same k z next line s = (
    λ h. (over s h.0).0 (written (seen bytes m) r.tree s e h.1),
    λ h. let lt : s < e = reach-up (stream (take e bytes) false) f 0 s h.0 e h.1 in
        (lt, unwritten (seen bytes m) r.tree s e ((over s lt).1 h)),
  )
    where
      over : (s : ℕ) → s < e
          → Match (seen bytes m) f s e ↔ ((p : ℕ) × Reach (stream (take e bytes) false) f 0 s p e × Last (world (known_before (take e bytes)) k z) f 0 p)
      over s lt =
          let len : length (take e bytes) ≡ e = length-take-le e bytes ln in
          subst₂ (λ (u : Known) (v : Bool). Match (seen bytes m) f s e ↔ ((p : ℕ) × Reach (stream (take e bytes) false) f 0 s p e × Last (world (known_before (take e bytes)) u v) f 0 p)) next line
          (subst₂
          (λ (l : List ℕ) (j : ℕ). Match (stream l (end_known bytes m)) f s j
          ↔ ((p : ℕ) × Reach (stream (take e bytes) false) f 0 s p j
          × Last (world (known_before (take e bytes)) (known_after (drop e (take m bytes)) (end_known bytes m)) (end_known bytes m && last_line (drop e (take m bytes)))) f 0 p))
          (split m e le) len
          (base-over f 0 (take e bytes) (drop e (take m bytes)) (end_known bytes m) same s (omega arith)))

  -- a settled pair's offset is within the bytes known
  pub within-from : (m e s : ℕ) → SettledFrom bytes r m e s → (e ≤ m) × (e ≤ n)
  within-from m e s h =
      let t = seen bytes m in
      let g = (end t f 0 s e h.0).0 (written t r.tree s e h.1) in
      let short : e ≤ length (take m bytes) =
      reach-short t (length (take m bytes)) (λ c j x. ltb→lt j (length (take m bytes)) ((and_T (ltb j (length (take m bytes))) (has c (get_or (take m bytes) j 0))).0 x).0)
      f 0 s g.0 e g.1 in
      omega (arith, short, length-take m bytes)

  pub within : (m e : ℕ) → Settled bytes r m e → (e ≤ m) × (e ≤ n)
  within m e h = within-from m e h.start (h.earlier, h.matched)

  -- while bytes come, no end is known
  open-from : (m e : ℕ) → e ≤ m → m ≤ n → (k : Known) → known_after (drop e (take m bytes)) false ≡ k → (s : ℕ) → SettledFrom bytes r m e s ↔ EndsFrom e k false s
  open-from m e le ln k next =
      let open-end : end_known bytes m ≡ false = before-closing bytes m ln in
      from_is m e le (omega arith)
      (subst (λ (z : Bool). Same has holds (take e bytes) (drop e (take m bytes)) false z) (sym open-end) (open-same (take e bytes) (drop e (take m bytes))))
      k false (ap (known_after (drop e (take m bytes))) open-end ∙ next) (ap (λ (z : Bool). z && last_line (drop e (take m bytes))) open-end)

  -- with the pair's last byte nothing is known of the next one
  pub from_byte : (e : ℕ) → e ≤ n → (s : ℕ) → SettledFrom bytes r e e s ↔ EndsFrom e unknown false s
  from_byte e le =
      let none : drop e (take e bytes) ≡ [] = drop_of_length-le (take e bytes) {i = e} (omega (arith, length-take-le e bytes le)) in
      open-from e e (omega arith) le unknown (ap (λ (l : List ℕ). known_after l false) none)

  -- from the next byte on it is known: the same pairs are settled at each of these moments
  pub from_next : (m e : ℕ) → e < m → m ≤ n → (s : ℕ) → SettledFrom bytes r m e s ↔ EndsFrom e (after e) false s
  from_next m e lt ln =
      open-from m e (omega arith) ln (after e)
      (next_known (take m bytes) e false (omega (arith, length-take-le m bytes ln)) ∙ ap (λ (x : ℕ). byte (side_of x)) (get_or-take m bytes e 0 lt))

  -- at the closing, before the stream's end: `$` holds where one newline is left
  pub from-closing : (e : ℕ) → e < n → (s : ℕ) → SettledFrom bytes r (closing_moment bytes) e s ↔ EndsFrom e (after e) (last_line (drop e bytes)) s
  from-closing e lt =
      let all : take (suc n) bytes ≡ bytes = take_all (suc n) bytes (omega arith) in
      let known : end_known bytes (suc n) ≡ true = at-closing bytes in
      let rest : drop e (take (suc n) bytes) ≡ get_or bytes e 0 ∷ drop (suc e) bytes = ap (drop e) all ∙ drop-cons bytes e 0 lt in
      from_is (suc n) e (omega arith) (omega arith)
      (subst₂ (λ (l : List ℕ) (k : Bool). Same has holds (take e bytes) l false k) (sym rest) (sym known) (ended_same (take e bytes) (get_or bytes e 0) (drop (suc e) bytes)))
      (after e) (last_line (drop e bytes)) (ap₂ known_after rest known) (ap₂ (λ (l : List ℕ) (k : Bool). k && last_line (drop e l)) all known)

  -- and at its end
  pub from_end : (s : ℕ) → SettledFrom bytes r (closing_moment bytes) n s ↔ LastFrom s
  from_end s =
      let whole : seen bytes (suc n) ≡ stream bytes true = ap₂ stream (take_all (suc n) bytes (omega arith)) (at-closing bytes) in (
        λ h. (base-end f 0 bytes s h.0).0 (written (stream bytes true) r.tree s n (subst (λ t. Means t r.tree s n) whole h.1)),
        λ h. let lt : s < n = reach-up (stream bytes true) f 0 s h.0 n h.1 in
            (lt, subst (λ t. Means t r.tree s n) (sym whole) (unwritten (stream bytes true) r.tree s n ((base-end f 0 bytes s lt).1 h))),
      )

  -- the same of pairs
  pub by_byte : (e : ℕ) → e ≤ n → Settled bytes r e e ↔ EndsAt e unknown false
  by_byte e le = some-inside e e (EndsFrom e unknown false) (from_byte e le)

  pub by_next : (m e : ℕ) → e < m → m ≤ n → Settled bytes r m e ↔ EndsAt e (after e) false
  by_next m e lt ln = some-inside m e (EndsFrom e (after e) false) (from_next m e lt ln)

  pub by_closing : (e : ℕ) → e < n → Settled bytes r (closing_moment bytes) e ↔ EndsAt e (after e) (last_line (drop e bytes))
  by_closing e lt = some-inside (closing_moment bytes) e (EndsFrom e (after e) (last_line (drop e bytes))) (from-closing e lt)

  pub by_end : Settled bytes r (closing_moment bytes) n ↔ EndsLast
  by_end = some-inside (closing_moment bytes) n LastFrom from_end

  -- what is known only grows
  pub ends_next : (e : ℕ) (k : Known) (z : Bool) (s : ℕ) → EndsFrom e unknown false s → EndsFrom e k z s
  ends_next e k z s h =
      (h.0, h.1, last_more (world (known_before (take e bytes)) unknown false) (world (known_before (take e bytes)) k z) (known_more (known_before (take e bytes)) k z) f 0 h.0 h.2)

  pub ends-line : (e : ℕ) (k : Known) (z : Bool) (s : ℕ) → EndsFrom e k false s → EndsFrom e k z s
  ends-line e k z s h =
      (h.0, h.1, last_more (world (known_before (take e bytes)) k false) (world (known_before (take e bytes)) k z) (line-more (known_before (take e bytes)) k z) f 0 h.0 h.2)

  pub ends-ended : (s : ℕ) → EndsFrom n unknown false s → LastFrom s
  ends-ended s h =
      let whole : take n bytes ≡ bytes = take_all n bytes (omega arith) in (
        h.0,
        reach-ended f 0 bytes s h.0 (subst (λ (l : List ℕ). Reach (stream l false) f 0 s h.0 n) whole h.1),
        last_more (world (known_before bytes) unknown false) (world (known_before bytes) edge true) (known_more (known_before bytes) edge true) f 0 h.0
            (subst (λ (l : List ℕ). Last (world (known_before l) unknown false) f 0 h.0) whole h.2),
      )

  -- what is settled at one moment is settled at the next
  stays-next : (m e s : ℕ) → e ≤ m → e ≤ n → m ≤ n → SettledFrom bytes r m e s → SettledFrom bytes r (suc m) e s
  stays-next m e s le ln lm h = go (dec_lt e m) (dec_lt m n) (dec_lt e n)
    where
      own : m ≡ e → EndsFrom e unknown false s
      own q = (from_byte e ln s).0 (subst (λ (k : ℕ). SettledFrom bytes r k e s) q h)

      closes : m ≡ n → SettledFrom bytes r (closing_moment bytes) e s → SettledFrom bytes r (suc m) e s
      closes q = subst (λ (k : ℕ). SettledFrom bytes r (suc k) e s) (sym q)

      go : Dec (e < m) → Dec (m < n) → Dec (e < n) → SettledFrom bytes r (suc m) e s
      go (yes lt) (yes l) d = (from_next (suc m) e (omega arith) l s).1 ((from_next m e lt lm s).0 h)
      go (no ge) (yes l) d = (from_next (suc m) e (omega arith) l s).1 (ends_next e (after e) false s (own (omega arith)))
      go (yes lt) (no g) (yes d) = closes (omega arith) ((from-closing e d s).1 (ends-line e (after e) (last_line (drop e bytes)) s ((from_next m e lt lm s).0 h)))
      go (no ge) (no g) (yes d) = absurd (omega arith)
      go (yes lt) (no g) (no d) = absurd (omega arith)
      go (no ge) (no g) (no d) =
          let q : e ≡ n = omega arith in
          closes (omega arith) (subst (λ (k : ℕ). SettledFrom bytes r (closing_moment bytes) k s) (sym q)
          ((from_end s).1 (ends-ended s (subst (λ (k : ℕ). EndsFrom k unknown false s) q (own (omega arith))))))

  -- what is settled stays settled
  pub stays-from : (j m e s : ℕ) → j ≤ m → m ≤ closing_moment bytes → SettledFrom bytes r j e s → SettledFrom bytes r m e s
  stays-from j m e s le lc h = let q : j + (m - j) ≡ m = omega arith in subst (λ (k : ℕ). SettledFrom bytes r k e s) q (go (m - j) (omega arith))
    where
      go : (d : ℕ) → j + d ≤ closing_moment bytes → SettledFrom bytes r (j + d) e s
      go zero l = let q : j ≡ j + 0 = omega arith in subst (λ (k : ℕ). SettledFrom bytes r k e s) q h
      go (suc d) l =
          let q : suc (j + d) ≡ j + suc d = omega arith in
          subst (λ (k : ℕ). SettledFrom bytes r k e s) q (stays-next (j + d) e s (omega (arith, within-from j e s h)) (within-from j e s h).1 (omega arith) (go d (omega arith)))

  pub stays-settled : (j m e : ℕ) → j ≤ m → m ≤ closing_moment bytes → Settled bytes r j e → Settled bytes r m e
  stays-settled j m e le lc h =
      let g = stays-from j m e h.start le lc (h.earlier, h.matched) in
      record { start = h.start; earlier = g.0; matched = g.1; inside = h.inside }

  -- a pair settled with its last byte falls there
  pub falls_at : (e : ℕ) → Settled bytes r e e → Falls bytes r e e
  falls_at e h = record {
    from_last = omega arith;
    by_closing = omega (arith, within e e h);
    settled = h;
    not_before = λ j a c g. omega arith;
  }

  -- and at a later moment, if it was not settled at the one before
  pub falls-after : (m e : ℕ) → e ≤ m → suc m ≤ closing_moment bytes → Falls bytes r (suc m) e ↔ (Settled bytes r (suc m) e × (¬ Settled bytes r m e))
  falls-after m e le lc = (
    λ h. (h.settled, h.not_before m le (omega arith)),
    λ h. record {
      from_last = omega arith;
      by_closing = lc;
      settled = h.0;
      not_before = λ j a c g. h.1 (stays-settled j m e (omega arith) (omega arith) g);
    },
  )

  -- what falls with its last byte ..
  pub falls-own : (e : ℕ) → e ≤ n → Falls bytes r e e ↔ EndsAt e unknown false
  falls-own e le = (λ h. (by_byte e le).0 h.settled, λ h. falls_at e ((by_byte e le).1 h))

  -- .. with the next one ..
  pub falls-late : (e : ℕ) → e < n → Falls bytes r (suc e) e ↔ (EndsAt e (after e) false × (¬ EndsAt e unknown false))
  falls-late e lt =
      let both = falls-after e e (omega arith) (omega arith) in
      let now = by_next (suc e) e (omega arith) lt in
      let own = by_byte e (omega arith) in
      (λ h. let g = both.0 h in (now.0 g.0, λ x. g.1 (own.1 x)), λ h. both.1 (now.1 h.0, λ x. h.1 (own.0 x)))

  -- .. at the closing before the last line's end ..
  pub falls-line : (e : ℕ) → e < n → Falls bytes r (closing_moment bytes) e ↔ (EndsAt e (after e) (last_line (drop e bytes)) × (¬ EndsAt e (after e) false))
  falls-line e lt =
      let both = falls-after n e (omega arith) (omega arith) in
      let now = by_closing e lt in
      let own = by_next n e lt (omega arith) in
      (λ h. let g = both.0 h in (now.0 g.0, λ x. g.1 (own.1 x)), λ h. both.1 (now.1 h.0, λ x. h.1 (own.0 x)))

  -- .. and at the stream's end.
  pub falls-end : Falls bytes r (closing_moment bytes) n ↔ (EndsLast × (¬ EndsAt n unknown false))
  falls-end =
      let both = falls-after n n (omega arith) (omega arith) in
      let own = by_byte n (omega arith) in
      (λ h. let g = both.0 h in (by_end.0 g.0, λ x. g.1 (own.1 x)), λ h. both.1 (by_end.1 h.0, λ x. h.1 (own.0 x)))

  -- with its last byte, with the next one, or at the closing
  abbrev pub Moment : (m e : ℕ) → Type 0
  Moment m e =
      ((m ≡ e) × (e ≤ n)) ⊎ ((m ≡ suc e) × (e < n)) ⊎ ((m ≡ closing_moment bytes) × ((e ≡ n) ⊎ ((e < n) × (last_line (drop e bytes) ≡ true))))

  -- A pair falls with its last byte, with the next one, or at the closing, and there only at the
  -- stream's end or before a last newline.
  pub falls-when : (m e : ℕ) → Falls bytes r m e → Moment m e
  falls-when m e h = go (within m e h.settled) (dec_lt e m) (dec_lt (suc e) m) (dec_le m n) (dec_lt e n)
    where
      go : (e ≤ m) × (e ≤ n) → Dec (e < m) → Dec (suc e < m) → Dec (m ≤ n) → Dec (e < n) → Moment m e
      go w (no ge) b d c = inl (omega arith, w.1)
      go w (yes lt) (no ge) d (yes le) = inr (inl (omega arith, le))
      go w (yes lt) (no ge) d (no gn) = inr (inr (omega (arith, h.by_closing), inl (omega arith)))
      go w (yes lt) (yes l) (yes ln) c =
          absurd (h.not_before (suc e) (omega arith) l ((by_next (suc e) e (omega arith) (omega arith)).1 ((by_next m e lt ln).0 h.settled)))
      go w (yes lt) (yes l) (no gn) c =
          let q : m ≡ suc n = omega (arith, h.by_closing) in
          let le : e < n = omega arith in
          let now = (falls-line e le).0 (subst (λ (k : ℕ). Falls bytes r k e) q h) in
          inr (inr (q, inr (le, line (last_line (drop e bytes)) now.0 now.1)))
        where
          line : (z : Bool) → EndsAt e (after e) z → ¬ EndsAt e (after e) false → z ≡ true
          line true x y = refl
          line false x y = absurd (y x)

  -- Whatever is settled at the closing falls at some moment: the first at which it is settled.
  pub falls-some : (e : ℕ) → Settled bytes r (closing_moment bytes) e → (m : ℕ) × Falls bytes r m e
  falls-some e h =
      let w = within (closing_moment bytes) e h in
      let q : closing_moment bytes ≡ e + (closing_moment bytes - e) = omega arith in
      first (closing_moment bytes - e) (omega arith) (subst (λ (k : ℕ). Settled bytes r k e) q h)
    where
      first : (d : ℕ) → e + d ≤ closing_moment bytes → Settled bytes r (e + d) e → (m : ℕ) × Falls bytes r m e
      first zero l s = let q : e + 0 ≡ e = omega arith in (e, falls_at e (subst (λ (k : ℕ). Settled bytes r k e) q s))
      first (suc d) l s = go (λ t. first d (omega arith) t) (settled-dec bytes r (e + d) e)
        where
          go : (Settled bytes r (e + d) e → (m : ℕ) × Falls bytes r m e) → Dec (Settled bytes r (e + d) e) → (m : ℕ) × Falls bytes r m e
          go ih (yes t) = ih t
          go ih (no t) =
              let q : e + suc d ≡ suc (e + d) = omega arith in
              (suc (e + d), (falls-after (e + d) e (omega arith) (omega arith)).1 (subst (λ (k : ℕ). Settled bytes r k e) q s, t))

  -- What is settled at the closing is what matches on the whole stream.
  pub settled-whole : (e : ℕ) → Settled bytes r (closing_moment bytes) e ↔ MatchEnds r bytes e
  settled-whole e =
      let whole : stream (take (suc n) bytes) (end_known bytes (closing_moment bytes)) ≡ stream bytes true = ap₂ stream (take_all (suc n) bytes (omega arith)) (at-closing bytes) in (
        λ h. (h.start, h.earlier, subst (λ t. Means t r.tree h.start e) whole h.matched, h.inside),
        λ h. record { start = h.0; earlier = h.1; matched = subst (λ t. Means t r.tree h.0 e) (sym whole) h.2; inside = h.3 },
      )

  -- With all bytes known and not the end, what is settled is what matches by what is known then.
  pub open-end : (e : ℕ) → Settled bytes r n e ↔ ((s : ℕ) × (s < e) × Means (stream bytes false) r.tree s e × InWindows r.windows s e)
  open-end e =
      let known : stream (take n bytes) (end_known bytes n) ≡ stream bytes false = ap₂ stream (take_all n bytes (omega arith)) (before-closing bytes n (omega arith)) in (
        λ h. (h.start, h.earlier, subst (λ t. Means t r.tree h.start e) known h.matched, h.inside),
        λ h. record { start = h.0; earlier = h.1; matched = subst (λ t. Means t r.tree h.0 e) (sym known) h.2; inside = h.3 },
      )

  -- A pair falls at the closing exactly if it matches, and does not match while the end is not
  -- known.
  pub falls-at-closing : (e : ℕ) → Falls bytes r (closing_moment bytes) e
      ↔ (MatchEnds r bytes e × (¬ ((s : ℕ) × (s < e) × Means (stream bytes false) r.tree s e × InWindows r.windows s e)))
  falls-at-closing e = (
    λ h. let g = (after-n (within (closing_moment bytes) e h.settled).1).0 h in ((settled-whole e).0 g.0, λ x. g.1 ((open-end e).1 x)),
    λ h. let s : Settled bytes r (closing_moment bytes) e = (settled-whole e).1 h.0 in
        (after-n (within (closing_moment bytes) e s).1).1 (s, λ x. h.1 ((open-end e).0 x)),
  )
    where
      after-n : e ≤ n → Falls bytes r (closing_moment bytes) e ↔ (Settled bytes r (closing_moment bytes) e × (¬ Settled bytes r n e))
      after-n le = falls-after n e le (omega arith)
