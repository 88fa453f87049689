-- The busy figure of the state after some bytes is the number of live positions by meaning: the
-- live words' ones, counted rule by rule in the order of their addition. Assumes nothing.
use mathlib.Core.Path.{◌≡◌, refl, sym, subst, subst₂, ap, ap₂, ◌∙◌}
use mathlib.Core.Logic.{◌↔◌}
use mathlib.Core.Bool.{Bool, true, false}
use mathlib.Core.List.{List, [], ◌∷◌}
use Prim.Native.Nat.{ℕ, zero, suc, ◌+◌, ◌-◌, ◌^◌, ◌≤◌, ◌<◌}
use native.Mathlib.Nat.{add-zero}
use native.Mathlib.Omega.{arith}
use lib.Dec.{T}
use lib.ListN.{length, take}
use lib.Seq.{take-length}
use Rattle.sets.specs.Set.{has, count, as_one, size_of}
use Rattle.sets.proofs.Laws.{count-ext, count_add}
use Rattle.table.specs.Layout.{max_positions}
use Rattle.table.specs.Automaton.{automaton}
use Rattle.stream.specs.declared.Stream.{Stream}
use Rattle.stream.specs.Byte.{busy_of}
use Rattle.meaning.specs.Form.{positions}
use Rattle.meaning.specs.Rule.{Rule, stream}
use Rattle.meaning.specs.Live.{Reached, Live, Counts, none, one, skip, Busy}
use Rattle.meaning.proofs.Shift.{shift, unshift}
use Rattle.meaning.proofs.Logic.{false-T}
use Rattle.demands.proofs.Carried.{Carried, Based, positions_in, form_of}
use Rattle.demands.proofs.Tracked.{Alive}

-- a test is counted as often as what it tests holds
counts_of : (Q : ℕ → Type 0) (f : ℕ → Bool) (n : ℕ) → ((q : ℕ) → q < n → T (f q) ↔ Q q) → Counts Q n (count n f)
unfolding count
counts_of Q f zero iff = none
counts_of Q f (suc n) iff = go (f n) (iff n (omega arith)) (counts_of Q f n (λ q lt. iff q (omega arith)))
  where
    go : (b : Bool) → T b ↔ Q n → Counts Q n (count n f) → Counts Q (suc n) (count n f + as_one b)
    go true i h = subst (λ (k : ℕ). Counts Q (suc n) k) (let e : suc (count n f) ≡ count n f + 1 = omega arith in e) (one (i.0 tt) h)
    go false i h = subst (λ (k : ℕ). Counts Q (suc n) k) (sym (add-zero (count n f))) (skip (λ q. i.1 q) h)

none-counted : (n : ℕ) (f : ℕ → Bool) → ((q : ℕ) → q < n → f q ≡ false) → count n f ≡ 0
unfolding count
none-counted zero f h = refl
none-counted (suc n) f h = ap₂ (λ (k : ℕ) (b : Bool). k + as_one b) (none-counted n f (λ q lt. h q (omega arith))) (h n (omega arith))

module _ (t : List ℕ) (rules : List Rule) (b : Carried t rules) (bytes : List ℕ) (short : length bytes < 2 ^ 64) (s : Stream)
    (track : Alive (automaton t) b.rule b.from b.tab b.carries bytes short (length bytes) s) where
  abbrev n : ℕ
  n = length bytes

  -- the rule whose positions begin at m
  one-rule : (r : Rule) (m : ℕ) → (a : ℕ) × (a < (automaton t).rules) × (b.rule a ≡ r) × (b.from a ≡ m) → (q : ℕ) → q < positions (form_of r)
      → T (has s.live (m + q)) ↔ Live r bytes q
  one-rule r m p q lt =
      let here = subst₂ (λ (x : Rule) (y : ℕ). (q : ℕ) → (y ≤ q) × (q < y + positions (form_of x)) → T (has s.live q) ↔ Reached (stream (take n bytes) false) (form_of x) y q n)
      p.2 p.3 (λ q i. track.live p.0 p.1 q i) (m + q) (omega arith) in
      let whole : take n bytes ≡ bytes = take-length bytes in
      let reached = subst (λ (l : List ℕ). T (has s.live (m + q)) ↔ Reached (stream l false) (form_of r) m (m + q) n) whole here in (
        λ h. let g = reached.0 h in (g.0, unshift (stream bytes false) m (form_of r) 0 g.0 q n ((at_zero r m g.0 q).1 g.1)),
        λ h. reached.1 (h.0, (at_zero r m h.0 q).0 (shift (stream bytes false) m (form_of r) 0 h.0 q n h.1)),
      )
    where
      at_zero : (r : Rule) (m x q : ℕ) → Rattle.meaning.specs.Form.Reach (stream bytes false) (form_of r) (m + 0) x (m + q) n
          ↔ Rattle.meaning.specs.Form.Reach (stream bytes false) (form_of r) m x (m + q) n
      at_zero r m x q = (
        λ h. subst (λ (y : ℕ). Rattle.meaning.specs.Form.Reach (stream bytes false) (form_of r) y x (m + q) n) (add-zero m) h,
        λ h. subst (λ (y : ℕ). Rattle.meaning.specs.Form.Reach (stream bytes false) (form_of r) y x (m + q) n) (sym (add-zero m)) h,
      )

  by-rules : (l : List Rule) (m : ℕ) → Based (automaton t) b.rule b.from l m → Busy l bytes (count (positions_in l) (λ q. has s.live (m + q)))
  unfolding Busy positions_in Based
  by-rules [] m h = none-counted 0 (λ q. has s.live (m + q)) (λ q lt. absurd (omega arith))
  by-rules (r ∷ l) m h =
      let p : ℕ = positions (form_of r) in
      let f : ℕ → Bool = λ q. has s.live (m + q) in (
        count p f,
        count (positions_in l) (λ q. has s.live (m + p + q)),
        counts_of (Live r bytes) f p (λ q lt. one-rule r m h.0 q lt),
        by-rules l (m + p) h.1,
        count_add p (positions_in l) f
            ∙ ap (λ (k : ℕ). count p f + k) (count-ext (positions_in l) (λ q. f (p + q)) (λ q. has s.live (m + p + q)) (λ q lt. (let e : m + (p + q) ≡ m + p + q = omega arith in ap (has s.live) e))),
      )

  -- past the table's positions nothing is live
  past : (q : ℕ) → positions_in rules ≤ q → q < max_positions → has s.live q ≡ false
  past q le lt = false-T (has s.live q) (λ h. omega (arith, track.inside q lt h, b.counted))

  -- The busy figure.
  pub busy-is : Busy rules bytes (busy_of s)
  unfolding size_of
  busy-is =
      let f : ℕ → Bool = has s.live in
      let P : ℕ = positions_in rules in
      let fits : P ≤ max_positions = omega (arith, b.carries.few_positions, b.counted) in
      let split : max_positions ≡ P + (max_positions - P) = omega arith in
      let rest : count (max_positions - P) (λ q. f (P + q)) ≡ 0 = none-counted (max_positions - P) (λ q. f (P + q)) (λ q lt. past (P + q) (omega arith) (omega arith)) in
      let whole : count max_positions f ≡ count P f =
      ap (λ (k : ℕ). count k f) split ∙ count_add P (max_positions - P) f ∙ ap (λ (k : ℕ). count P f + k) rest ∙ add-zero (count P f) in
      let shifted : count P (λ q. f (0 + q)) ≡ count P f = count-ext P (λ q. f (0 + q)) f (λ q lt. (let e : 0 + q ≡ q = omega arith in ap f e)) in
      subst (λ (k : ℕ). Busy rules bytes k) (shifted ∙ sym whole) (by-rules rules 0 b.based)
