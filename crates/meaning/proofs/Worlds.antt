-- What holds in a world holds in each world where more assertions do: null, first, last and follow
-- only grow. Assumes nothing.
use mathlib.Core.Logic.{inl, inr}
use mathlib.Core.Bool.{Bool}
use Prim.Native.Nat.{ℕ, ◌+◌}
use lib.Dec.{T}
use Rattle.meaning.specs.Form.{Form, eps, take, check, seq, alt, plus, opt, positions}
use Rattle.meaning.proofs.Relations.{Null, First, Last, Follow}

module _ {C A : Type 0} (v w : A → Bool) (to : (a : A) → T (v a) → T (w a)) where
  pub null-more : (f : Form C A) → Null v f → Null w f
  unfolding Null
  null-more eps h = tt
  null-more (take c) h = absurd h
  null-more (check a) h = to a h
  null-more (seq f g) h = (null-more f h.0, null-more g h.1)
  null-more (alt f g) (inl h) = inl (null-more f h)
  null-more (alt f g) (inr h) = inr (null-more g h)
  null-more (plus f) h = null-more f h
  null-more (opt f) h = tt

  pub first_more : (f : Form C A) (b q : ℕ) → First v f b q → First w f b q
  unfolding First
  first_more eps b q h = absurd h
  first_more (take c) b q h = h
  first_more (check a) b q h = absurd h
  first_more (seq f g) b q (inl h) = inl (first_more f b q h)
  first_more (seq f g) b q (inr h) = inr (null-more f h.0, first_more g (b + positions f) q h.1)
  first_more (alt f g) b q (inl h) = inl (first_more f b q h)
  first_more (alt f g) b q (inr h) = inr (first_more g (b + positions f) q h)
  first_more (plus f) b q h = first_more f b q h
  first_more (opt f) b q h = first_more f b q h

  pub last_more : (f : Form C A) (b q : ℕ) → Last v f b q → Last w f b q
  unfolding Last
  last_more eps b q h = absurd h
  last_more (take c) b q h = h
  last_more (check a) b q h = absurd h
  last_more (seq f g) b q (inl h) = inl (last_more f b q h.0, null-more g h.1)
  last_more (seq f g) b q (inr h) = inr (last_more g (b + positions f) q h)
  last_more (alt f g) b q (inl h) = inl (last_more f b q h)
  last_more (alt f g) b q (inr h) = inr (last_more g (b + positions f) q h)
  last_more (plus f) b q h = last_more f b q h
  last_more (opt f) b q h = last_more f b q h

  pub follow-more : (f : Form C A) (b p q : ℕ) → Follow v f b p q → Follow w f b p q
  unfolding Follow
  follow-more eps b p q h = absurd h
  follow-more (take c) b p q h = absurd h
  follow-more (check a) b p q h = absurd h
  follow-more (seq f g) b p q (inl h) = inl (follow-more f b p q h)
  follow-more (seq f g) b p q (inr (inl h)) = inr (inl (follow-more g (b + positions f) p q h))
  follow-more (seq f g) b p q (inr (inr h)) = inr (inr (last_more f b p h.0, first_more g (b + positions f) q h.1))
  follow-more (alt f g) b p q (inl h) = inl (follow-more f b p q h)
  follow-more (alt f g) b p q (inr h) = inr (follow-more g (b + positions f) p q h)
  follow-more (plus f) b p q (inl h) = inl (follow-more f b p q h)
  follow-more (plus f) b p q (inr h) = inr (last_more f b p h.0, first_more f b q h.1)
  follow-more (opt f) b p q h = follow-more f b p q h
