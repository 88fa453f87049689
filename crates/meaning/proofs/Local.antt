-- A match from s to e looks at the bytes before e and the assertions up to e; a way that has just
-- taken the byte before k looks at the bytes and the assertions before k. So what a longer text
-- adds changes neither. Assumes nothing.
use mathlib.Core.Logic.{inl, inr}
use Prim.Native.Nat.{ℕ, ◌≤◌, ◌<◌}
use native.Mathlib.Omega.{arith}
use lib.Dec.{T}
use Rattle.meaning.specs.Tree.{Text}
use Rattle.meaning.specs.Form.{Form, eps, take, check, seq, alt, plus, opt, Star, done, more, Match, Reach}

module _ {C A : Type 0} (t : Text C A) where
  star-up : (f : Form C A) → ((s e : ℕ) → Match t f s e → s ≤ e) → (s e : ℕ) → Star (Match t f) s e → s ≤ e
  star-up f ih s e done = omega arith
  star-up f ih s e (more {m = m} l r) = omega (arith, star-up f ih s m l, ih m e r)

  pub match-up : (f : Form C A) (s e : ℕ) → Match t f s e → s ≤ e
  unfolding Match
  match-up eps s e h = omega arith
  match-up (take c) s e h = omega arith
  match-up (check a) s e h = omega arith
  match-up (seq f g) s e h = omega (arith, match-up f s h.0 h.1, match-up g h.0 e h.2)
  match-up (alt f g) s e (inl h) = match-up f s e h
  match-up (alt f g) s e (inr h) = match-up g s e h
  match-up (plus f) s e h = omega (arith, star-up f (λ x y r. match-up f x y r) s h.0 h.1, match-up f h.0 e h.2)
  match-up (opt f) s e (inl h) = omega arith
  match-up (opt f) s e (inr h) = match-up f s e h

  pub reach-up : (f : Form C A) (b s q k : ℕ) → Reach t f b s q k → s < k
  unfolding Reach
  reach-up eps b s q k r = absurd r
  reach-up (take c) b s q k r = omega arith
  reach-up (check a) b s q k r = absurd r
  reach-up (seq f g) b s q k (inl r) = reach-up f b s q k r
  reach-up (seq f g) b s q k (inr r) = omega (arith, match-up f s r.0 r.1, reach-up g _ r.0 q k r.2)
  reach-up (alt f g) b s q k (inl r) = reach-up f b s q k r
  reach-up (alt f g) b s q k (inr r) = reach-up g _ s q k r
  reach-up (plus f) b s q k r = omega (arith, star-up f (λ x y h. match-up f x y h) s r.0 r.1, reach-up f b r.0 q k r.2)
  reach-up (opt f) b s q k r = reach-up f b s q k r

  -- a way ends within the bytes
  pub reach-short : (n : ℕ) → ((c : C) (j : ℕ) → T (t.hit c j) → j < n) → (f : Form C A) (b s q k : ℕ) → Reach t f b s q k → k ≤ n
  unfolding Reach
  reach-short n short eps b s q k r = absurd r
  reach-short n short (take c) b s q k r = omega (arith, short c s r.2)
  reach-short n short (check a) b s q k r = absurd r
  reach-short n short (seq f g) b s q k (inl r) = reach-short n short f b s q k r
  reach-short n short (seq f g) b s q k (inr r) = reach-short n short g _ r.0 q k r.2
  reach-short n short (alt f g) b s q k (inl r) = reach-short n short f b s q k r
  reach-short n short (alt f g) b s q k (inr r) = reach-short n short g _ s q k r
  reach-short n short (plus f) b s q k r = reach-short n short f b r.0 q k r.2
  reach-short n short (opt f) b s q k r = reach-short n short f b s q k r

module _ {C A : Type 0} (t u : Text C A) (n : ℕ)
    (hits : (c : C) (j : ℕ) → j < n → T (t.hit c j) → T (u.hit c j)) (knows : (a : A) (j : ℕ) → j < n → T (t.known a j) → T (u.known a j)) where
  star-local : (f : Form C A) → ((s e : ℕ) → e < n → Match t f s e → Match u f s e) → (s e : ℕ) → e < n
      → Star (Match t f) s e → Star (Match u f) s e
  star-local f ih s e lt done = done
  star-local f ih s e lt (more {m = m} l r) = more (star-local f ih s m (omega (arith, match-up t f m e r)) l) (ih m e lt r)

  pub match-local : (f : Form C A) (s e : ℕ) → e < n → Match t f s e → Match u f s e
  unfolding Match
  match-local eps s e lt h = h
  match-local (take c) s e lt h = (h.0, hits c s (omega arith) h.1)
  match-local (check a) s e lt h = (h.0, knows a s (omega arith) h.1)
  match-local (seq f g) s e lt h =
      (h.0, match-local f s h.0 (omega (arith, match-up t g h.0 e h.2)) h.1, match-local g h.0 e lt h.2)
  match-local (alt f g) s e lt (inl h) = inl (match-local f s e lt h)
  match-local (alt f g) s e lt (inr h) = inr (match-local g s e lt h)
  match-local (plus f) s e lt h = (
    h.0,
    star-local f (λ x y l r. match-local f x y l r) s h.0 (omega (arith, match-up t f h.0 e h.2)) h.1,
    match-local f h.0 e lt h.2,
  )
  match-local (opt f) s e lt (inl h) = inl h
  match-local (opt f) s e lt (inr h) = inr (match-local f s e lt h)

  pub reach-local : (f : Form C A) (b s q k : ℕ) → k ≤ n → Reach t f b s q k → Reach u f b s q k
  unfolding Reach
  reach-local eps b s q k le r = absurd r
  reach-local (take c) b s q k le r = (r.0, r.1, hits c s (omega arith) r.2)
  reach-local (check a) b s q k le r = absurd r
  reach-local (seq f g) b s q k le (inl r) = inl (reach-local f b s q k le r)
  reach-local (seq f g) b s q k le (inr r) = inr (
    r.0,
    match-local f s r.0 (omega (arith, reach-up t g _ r.0 q k r.2)) r.1,
    reach-local g _ r.0 q k le r.2,
  )
  reach-local (alt f g) b s q k le (inl r) = inl (reach-local f b s q k le r)
  reach-local (alt f g) b s q k le (inr r) = inr (reach-local g _ s q k le r)
  reach-local (plus f) b s q k le r = (
    r.0,
    star-local f (λ x y l h. match-local f x y l h) s r.0 (omega (arith, reach-up t f b r.0 q k r.2)) r.1,
    reach-local f b r.0 q k le r.2,
  )
  reach-local (opt f) b s q k le r = reach-local f b s q k le r
