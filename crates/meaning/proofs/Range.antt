-- Positions lie in their form's range: from its base up to its base and the number of its
-- positions. Assumes nothing.
use mathlib.Core.Logic.{inl, inr}
use mathlib.Core.Bool.{Bool}
use Prim.Native.Nat.{ℕ, ◌+◌, ◌≤◌, ◌<◌}
use native.Mathlib.Omega.{arith}
use Rattle.meaning.specs.Tree.{Text}
use Rattle.meaning.specs.Form.{Form, eps, take, check, seq, alt, plus, opt, positions, Reach}
use Rattle.meaning.proofs.Relations.{First, Last, Follow}

abbrev pub Inside : {C A : Type 0} → Form C A → ℕ → ℕ → Type 0
Inside f b q = (b ≤ q) × (q < b + positions f)

module _ {C A : Type 0} (w : A → Bool) where
  pub first-inside : (f : Form C A) (b q : ℕ) → First w f b q → Inside f b q
  unfolding First positions
  first-inside eps b q h = absurd h
  first-inside (take c) b q h = omega arith
  first-inside (check a) b q h = absurd h
  first-inside (seq f g) b q (inl h) = omega (arith, first-inside f b q h)
  first-inside (seq f g) b q (inr h) = omega (arith, first-inside g (b + positions f) q h.1)
  first-inside (alt f g) b q (inl h) = omega (arith, first-inside f b q h)
  first-inside (alt f g) b q (inr h) = omega (arith, first-inside g (b + positions f) q h)
  first-inside (plus f) b q h = first-inside f b q h
  first-inside (opt f) b q h = first-inside f b q h

  pub last-inside : (f : Form C A) (b p : ℕ) → Last w f b p → Inside f b p
  unfolding Last positions
  last-inside eps b p h = absurd h
  last-inside (take c) b p h = omega arith
  last-inside (check a) b p h = absurd h
  last-inside (seq f g) b p (inl h) = omega (arith, last-inside f b p h.0)
  last-inside (seq f g) b p (inr h) = omega (arith, last-inside g (b + positions f) p h)
  last-inside (alt f g) b p (inl h) = omega (arith, last-inside f b p h)
  last-inside (alt f g) b p (inr h) = omega (arith, last-inside g (b + positions f) p h)
  last-inside (plus f) b p h = last-inside f b p h
  last-inside (opt f) b p h = last-inside f b p h

  pub follow-inside : (f : Form C A) (b p q : ℕ) → Follow w f b p q → Inside f b p
  unfolding Follow positions
  follow-inside eps b p q h = absurd h
  follow-inside (take c) b p q h = absurd h
  follow-inside (check a) b p q h = absurd h
  follow-inside (seq f g) b p q (inl h) = omega (arith, follow-inside f b p q h)
  follow-inside (seq f g) b p q (inr (inl h)) = omega (arith, follow-inside g (b + positions f) p q h)
  follow-inside (seq f g) b p q (inr (inr h)) = omega (arith, last-inside f b p h.0)
  follow-inside (alt f g) b p q (inl h) = omega (arith, follow-inside f b p q h)
  follow-inside (alt f g) b p q (inr h) = omega (arith, follow-inside g (b + positions f) p q h)
  follow-inside (plus f) b p q (inl h) = follow-inside f b p q h
  follow-inside (plus f) b p q (inr h) = last-inside f b p h.0
  follow-inside (opt f) b p q h = follow-inside f b p q h

  pub follow-inside-to : (f : Form C A) (b p q : ℕ) → Follow w f b p q → Inside f b q
  unfolding Follow positions
  follow-inside-to eps b p q h = absurd h
  follow-inside-to (take c) b p q h = absurd h
  follow-inside-to (check a) b p q h = absurd h
  follow-inside-to (seq f g) b p q (inl h) = omega (arith, follow-inside-to f b p q h)
  follow-inside-to (seq f g) b p q (inr (inl h)) = omega (arith, follow-inside-to g (b + positions f) p q h)
  follow-inside-to (seq f g) b p q (inr (inr h)) = omega (arith, first-inside g (b + positions f) q h.1)
  follow-inside-to (alt f g) b p q (inl h) = omega (arith, follow-inside-to f b p q h)
  follow-inside-to (alt f g) b p q (inr h) = omega (arith, follow-inside-to g (b + positions f) p q h)
  follow-inside-to (plus f) b p q (inl h) = follow-inside-to f b p q h
  follow-inside-to (plus f) b p q (inr h) = first-inside f b q h.1
  follow-inside-to (opt f) b p q h = follow-inside-to f b p q h

module _ {C A : Type 0} (t : Text C A) where
  pub reach-inside : (f : Form C A) (b s q k : ℕ) → Reach t f b s q k → Inside f b q
  unfolding Reach positions
  reach-inside eps b s q k r = absurd r
  reach-inside (take c) b s q k r = omega arith
  reach-inside (check a) b s q k r = absurd r
  reach-inside (seq f g) b s q k (inl r) = omega (arith, reach-inside f b s q k r)
  reach-inside (seq f g) b s q k (inr r) = omega (arith, reach-inside g (b + positions f) r.0 q k r.2)
  reach-inside (alt f g) b s q k (inl r) = omega (arith, reach-inside f b s q k r)
  reach-inside (alt f g) b s q k (inr r) = omega (arith, reach-inside g (b + positions f) s q k r)
  reach-inside (plus f) b s q k r = reach-inside f b r.0 q k r.2
  reach-inside (opt f) b s q k r = reach-inside f b s q k r
