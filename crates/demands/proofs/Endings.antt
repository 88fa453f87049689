-- Where the matches of one rule end in a stream, as the proofs about states take it: by positions
-- numbered from any base; before a last newline; and at which offsets a moment's pairs can lie.
-- Assumes nothing.
use mathlib.Core.Path.{◌≡◌, refl, sym, subst, subst₂, ap, ◌∙◌}
use mathlib.Core.Logic.{◌⊎◌, inl, inr, ◌↔◌}
use mathlib.Core.Bool.{Bool, true, false, true≢false, ◌&&◌}
use mathlib.Core.List.{List, ◌∷◌}
use Prim.Native.Nat.{ℕ, suc, ◌+◌, ◌-◌, ◌^◌, ◌≤◌, ◌<◌, zero-le}
use native.Mathlib.Omega.{arith}
use native.Mathlib.Decide.{dec_lt}
use lib.Dec.{eqb}
use lib.ListN.{length, get_or, take, drop, length-drop, drop_of_length-le}
use lib.Seq.{drop-cons}
use borrow.Author.Tests.{eq-eqb, eqb-true}
use Rattle.sets.specs.Set.{has}
use Rattle.kinds.specs.declared.Side.TheVariants.{Newline}
use Rattle.kinds.specs.Side.{side_of}
use Rattle.meaning.specs.Tree.{Text}
use Rattle.meaning.specs.Form.{Reach}
use Rattle.meaning.specs.Gap.{last_line, Known, byte, edge, known_before, known_after}
use Rattle.meaning.specs.Rule.{Rule, InWindows, ByteSet, Assertion, world, holds, stream}
use Rattle.meaning.specs.Ordered.{closing_moment, Falls}
use Rattle.meaning.proofs.Relations.{Last}
use Rattle.meaning.proofs.Stream.{Same}
use Rattle.meaning.proofs.Base.{more_bytes}
use Rattle.meaning.proofs.Moments.{EndsAt, EndsLast, Moment, after, falls-line, falls-when}
use Rattle.meaning.proofs.Offsets.{unbounded}
use Rattle.meaning.proofs.Starts.{ends-base, last-base}
use Rattle.demands.proofs.Carried.{form_of}

pub newline-side : (x : ℕ) → x ≡ 10 → side_of x ≡ Newline
unfolding side_of
newline-side x q = ap side_of q

module _ (bytes : List ℕ) (r : Rule) where
  abbrev n : ℕ
  n = length bytes

  -- a way from a start that is early enough stands at a last position of a world
  abbrev pub Ending : (Assertion → Bool) → Text ByteSet Assertion → (b k : ℕ) → Type 0
  Ending v t b k = (s : ℕ) × (p : ℕ) × Reach t (form_of r) b s p k × Last v (form_of r) b p × (s + r.windows.smallest_length ≤ k)

  -- of a rule without its window of end offsets, which have 64 bits
  module _ (short : n < 2 ^ 64) where
    inside : (s e : ℕ) → e ≤ n → s + r.windows.smallest_length ≤ e → InWindows (unbounded r).windows s e
    inside s e le long = (zero-le, omega arith, long)

    -- with byte k, where some bytes are known to follow
    pub ends-from : (k : ℕ) → k ≤ n → (rest : List ℕ) (e : Bool) → Same has holds (take k bytes) rest false e → (b : ℕ)
        → EndsAt bytes (unbounded r) k (known_after rest e) (e && last_line rest)
        ↔ Ending (world (known_before (take k bytes)) (known_after rest e) (e && last_line rest)) (stream (take k bytes) false) b k
    ends-from k le rest e stays b = (
      λ h. let g = (ends-base bytes (unbounded r) k le rest e stays b h.0).0 h.1 in (h.0, g.0, g.1, g.2, h.2.2),
      λ h. (h.0, (ends-base bytes (unbounded r) k le rest e stays b h.0).1 (h.1, h.2, h.3), inside h.0 k le h.4),
    )

    -- with the stream
    pub last-from : (b : ℕ) → EndsLast bytes (unbounded r) ↔ Ending (world (known_before bytes) edge true) (stream bytes true) b n
    last-from b = (
      λ h. let g = (last-base bytes (unbounded r) b h.0).0 h.1 in (h.0, g.0, g.1, g.2, h.2.2),
      λ h. (h.0, (last-base bytes (unbounded r) b h.0).1 (h.1, h.2, h.3), inside h.0 n (omega arith) h.4),
    )

  -- ---- the pairs before a last newline

  -- after k bytes, the last of them a newline: a match ends before it if the last line ends there,
  -- and not otherwise
  abbrev pub Late : ℕ → Type 0
  Late k = (e : ℕ) × (k ≡ suc e) × (get_or bytes e 0 ≡ 10) × EndsAt bytes r e (byte Newline) true × (¬ EndsAt bytes r e (byte Newline) false)

  -- a last line that ends before the end of the stream ends before its last byte, a newline
  one_left : (e : ℕ) → e < n → last_line (drop e bytes) ≡ true → n ≡ suc e
  one_left e lt line = go (dec_lt (suc e) n)
    where
      go : Dec (suc e < n) → n ≡ suc e
      go (yes l) = absurd (true≢false (sym line ∙ more_bytes (drop e bytes) (omega (arith, length-drop e bytes))))
      go (no g) = omega arith

  pub last_byte : (e : ℕ) → n ≡ suc e → last_line (drop e bytes) ≡ eqb (get_or bytes e 0) 10
  last_byte e q =
      ap last_line (drop-cons bytes e 0 (omega arith) ∙ ap (λ (l : List ℕ). get_or bytes e 0 ∷ l) (drop_of_length-le bytes {i = suc e} (omega arith)))

  -- they fall at the closing
  pub late-falls : Late n ↔ ((n - 1 < n) × Falls bytes r (closing_moment bytes) (n - 1))
  late-falls = (λ h. go h.0 h.1 h.2 h.3 h.4, λ h. let q : n ≡ suc (n - 1) = omega (arith, h.0) in come (n - 1) q h.1)
    where
      next : (e : ℕ) → get_or bytes e 0 ≡ 10 → after bytes r e ≡ byte Newline
      next e x = ap byte (newline-side (get_or bytes e 0) x)

      go : (e : ℕ) → n ≡ suc e → get_or bytes e 0 ≡ 10 → EndsAt bytes r e (byte Newline) true → ¬ EndsAt bytes r e (byte Newline) false
          → (n - 1 < n) × Falls bytes r (closing_moment bytes) (n - 1)
      go e q x a b =
          let is : e ≡ n - 1 = omega arith in
          let line : last_line (drop e bytes) ≡ true = last_byte e q ∙ eq-eqb (get_or bytes e 0) 10 x in (
            omega arith,
            subst (λ (i : ℕ). Falls bytes r (closing_moment bytes) i) is ((falls-line bytes r e (omega arith)).1 (
              subst₂ (λ (k : Known) (z : Bool). EndsAt bytes r e k z) (sym (next e x)) (sym line) a,
              λ h. b (subst (λ (k : Known). EndsAt bytes r e k false) (next e x) h),
            )),
          )

      come : (e : ℕ) → n ≡ suc e → Falls bytes r (closing_moment bytes) e → Late n
      come e q f =
          let g = (falls-line bytes r e (omega arith)).0 f in
          let line : last_line (drop e bytes) ≡ true = there (last_line (drop e bytes)) g.0 g.1 in
          let x : get_or bytes e 0 ≡ 10 = eqb-true (get_or bytes e 0) 10 (sym (last_byte e q) ∙ line) in (
            e,
            q,
            x,
            subst₂ (λ (k : Known) (z : Bool). EndsAt bytes r e k z) (next e x) line g.0,
            λ h. g.1 (subst (λ (k : Known). EndsAt bytes r e k false) (sym (next e x)) h),
          )
        where
          there : (z : Bool) → EndsAt bytes r e (after bytes r e) z → ¬ EndsAt bytes r e (after bytes r e) false → z ≡ true
          there true a b = refl
          there false a b = absurd (b a)

  -- the offsets of a byte's pairs, and of the closing's
  pub only-byte : (k c : ℕ) → k < n → Falls bytes r (suc k) c → ((c ≡ k) × (k < suc k)) ⊎ (c ≡ suc k)
  only-byte k c lt f = elim (falls-when bytes r (suc k) c f) [
    | inl x ↦ inr (sym x.0)
    | inr x ↦ elim x [ inl y ↦ inl (omega (arith, y.0), omega arith) | inr y ↦ absurd (omega (arith, y.0)) ]
  ]

  pub only-closing : (c : ℕ) → Falls bytes r (closing_moment bytes) c → ((c ≡ n - 1) × (n - 1 < n)) ⊎ (c ≡ n)
  only-closing c f = go (falls-when bytes r (closing_moment bytes) c f)
    where
      go : Moment bytes r (closing_moment bytes) c → ((c ≡ n - 1) × (n - 1 < n)) ⊎ (c ≡ n)
      go (inl x) = absurd (omega (arith, x.0, x.1))
      go (inr (inl x)) = absurd (omega (arith, x.0, x.1))
      go (inr (inr (q, inl x))) = inr x
      go (inr (inr (q, inr x))) = let one : n ≡ suc c = one_left c x.0 x.1 in inl (omega arith, omega arith)

  pub none_at_zero : (c : ℕ) → ¬ Falls bytes r 0 c
  none_at_zero c f = omega (arith, f.from_last, f.settled.earlier)
