-- Where a form's positions are numbered from makes no difference: numbered from d further on, its
-- sets
-- are the same sets d further on. And a position that is not the form's is in none of them.
use mathlib.Core.Path.{◌≡◌, refl, sym, ◌∙◌}
use mathlib.Core.Bool.{Bool, false}
use mathlib.Core.Logic.{◌⊎◌, inl, inr}
use Prim.Native.Nat.{ℕ, ◌+◌, ◌≤◌, ◌<◌}
use native.Mathlib.Decide.{ℕ_discrete}
use native.Mathlib.Omega.{arith}
use borrow.Author.Tests.{eq-eqb, ne_eqb}
use lib.Dec.{eqb}
use Rattle.meaning.specs.Form.{eps, take, check, seq, alt, plus, opt, positions}
use Rattle.meaning.specs.Rule.{Assertion}
use Rattle.meaning.specs.Automaton.{first, last, follow}
use Rattle.meaning.proofs.Logic.{false-T}
use Rattle.meaning.proofs.Computed.{first-T, last-T, follow-T}
use Rattle.meaning.proofs.Range.{first-inside, last-inside, follow-inside, follow-inside-to}
use Rattle.nodes.specs.Invariants.{Written}

-- ---- numbered from d further on

same_test : (q b d : ℕ) → eqb (q + d) (b + d) ≡ eqb q b
same_test q b d = go (ℕ_discrete q b)
  where
    go : Dec (q ≡ b) → eqb (q + d) (b + d) ≡ eqb q b
    go (yes e) = eq-eqb (q + d) (b + d) (omega arith) ∙ sym (eq-eqb q b e)
    go (no n) = ne_eqb (q + d) (b + d) (λ e. omega arith) ∙ sym (ne_eqb q b n)

module _ (w : Assertion → Bool) (d : ℕ) where
  pub first_on : (f : Written) (b q : ℕ) → first w f (b + d) (q + d) ≡ first w f b q
  unfolding first
  first_on eps b q = refl
  first_on (take c) b q = same_test q b d
  first_on (check a) b q = refl
  first_on (seq f g) b q =
      let e : b + d + positions f ≡ b + positions f + d = omega arith in
      rw (e, first_on f b q, first_on g (b + positions f) q)
  first_on (alt f g) b q =
      let e : b + d + positions f ≡ b + positions f + d = omega arith in
      rw (e, first_on f b q, first_on g (b + positions f) q)
  first_on (plus f) b q = first_on f b q
  first_on (opt f) b q = first_on f b q

  pub last_on : (f : Written) (b p : ℕ) → last w f (b + d) (p + d) ≡ last w f b p
  unfolding last
  last_on eps b p = refl
  last_on (take c) b p = same_test p b d
  last_on (check a) b p = refl
  last_on (seq f g) b p =
      let e : b + d + positions f ≡ b + positions f + d = omega arith in
      rw (e, last_on f b p, last_on g (b + positions f) p)
  last_on (alt f g) b p =
      let e : b + d + positions f ≡ b + positions f + d = omega arith in
      rw (e, last_on f b p, last_on g (b + positions f) p)
  last_on (plus f) b p = last_on f b p
  last_on (opt f) b p = last_on f b p

  pub follow-on : (f : Written) (b p q : ℕ) → follow w f (b + d) (p + d) (q + d) ≡ follow w f b p q
  unfolding follow
  follow-on eps b p q = refl
  follow-on (take c) b p q = refl
  follow-on (check a) b p q = refl
  follow-on (seq f g) b p q =
      let e : b + d + positions f ≡ b + positions f + d = omega arith in
      rw (
        e,
        follow-on f b p q,
        follow-on g (b + positions f) p q,
        last_on f b p,
        first_on g
            (b + positions f) q,
      )
  follow-on (alt f g) b p q =
      let e : b + d + positions f ≡ b + positions f + d = omega arith in
      rw (e, follow-on f b p q, follow-on g (b + positions f) p q)
  follow-on (plus f) b p q = rw (follow-on f b p q, last_on f b p, first_on f b q)
  follow-on (opt f) b p q = follow-on f b p q

-- ---- positions that are not the form's

abbrev pub Outside : Written → (b q : ℕ) → Type 0
Outside f b q = (q < b) ⊎ (b + positions f ≤ q)

module _ (w : Assertion → Bool) (f : Written) (b : ℕ) where
  apart : (q : ℕ) → Outside f b q → (b ≤ q) × (q < b + positions f) → ⊥
  apart q (inl h) i = omega arith
  apart q (inr h) i = omega arith

  pub no-first-at : (q : ℕ) → Outside f b q → first w f b q ≡ false
  no-first-at q h =
      false-T (first w f b q) (λ i. apart q h (first-inside w f b q ((first-T w f b q).0 i)))

  pub no-last-at : (p : ℕ) → Outside f b p → last w f b p ≡ false
  no-last-at p h =
      false-T (last w f b p) (λ i. apart p h (last-inside w f b p ((last-T w f b p).0 i)))

  pub no-follow-at : (p q : ℕ) → Outside f b p → follow w f b p q ≡ false
  no-follow-at p q h =
      false-T (follow w f b p q)
      (λ i. apart p h (follow-inside w f b p q ((follow-T w f b p q).0 i)))

  pub no-follow-to : (p q : ℕ) → Outside f b q → follow w f b p q ≡ false
  no-follow-to p q h =
      false-T (follow w f b p q)
      (λ i. apart q h (follow-inside-to w f b p q ((follow-T w f b p q).0 i)))
