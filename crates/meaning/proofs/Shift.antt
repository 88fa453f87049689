-- Where a form's positions are numbered from makes no difference: numbered from d further on, each
-- set is the same set d further on. So what is said of a rule by itself holds of it among others in
-- one table. Assumes nothing.
use mathlib.Core.Path.{◌≡◌, sym, subst, ap}
use mathlib.Core.Logic.{inl, inr, ◌↔◌}
use Prim.Native.Nat.{ℕ, ◌+◌}
use native.Mathlib.Omega.{arith}
use Rattle.meaning.specs.Tree.{Text}
use Rattle.meaning.specs.Form.{Form, eps, take, check, seq, alt, plus, opt, Reach, positions}

module _ {C A : Type 0} (t : Text C A) (d : ℕ) where
  -- the base of a sequence's second part
  next-base : (f g : Form C A) (b s q k : ℕ) → Reach t g (d + (b + positions f)) s (d + q) k ↔ Reach t g (d + b + positions f) s (d + q) k
  next-base f g b s q k =
      let e : d + (b + positions f) ≡ d + b + positions f = omega arith in
      (λ h. subst (λ (x : ℕ). Reach t g x s (d + q) k) e h, λ h. subst (λ (x : ℕ). Reach t g x s (d + q) k) (sym e) h)

  pub shift : (f : Form C A) (b s q k : ℕ) → Reach t f b s q k → Reach t f (d + b) s (d + q) k
  unfolding Reach
  shift eps b s q k r = r
  shift (take c) b s q k r = (ap (λ (x : ℕ). d + x) r.0, r.1, r.2)
  shift (check a) b s q k r = r
  shift (seq f g) b s q k (inl r) = inl (shift f b s q k r)
  shift (seq f g) b s q k (inr r) = inr (r.0, r.1, (next-base f g b r.0 q k).0 (shift g (b + positions f) r.0 q k r.2))
  shift (alt f g) b s q k (inl r) = inl (shift f b s q k r)
  shift (alt f g) b s q k (inr r) = inr ((next-base f g b s q k).0 (shift g (b + positions f) s q k r))
  shift (plus f) b s q k r = (r.0, r.1, shift f b r.0 q k r.2)
  shift (opt f) b s q k r = shift f b s q k r

  pub unshift : (f : Form C A) (b s q k : ℕ) → Reach t f (d + b) s (d + q) k → Reach t f b s q k
  unfolding Reach
  unshift eps b s q k r = r
  unshift (take c) b s q k r = (omega (arith, r.0), r.1, r.2)
  unshift (check a) b s q k r = r
  unshift (seq f g) b s q k (inl r) = inl (unshift f b s q k r)
  unshift (seq f g) b s q k (inr r) = inr (r.0, r.1, unshift g (b + positions f) r.0 q k ((next-base f g b r.0 q k).1 r.2))
  unshift (alt f g) b s q k (inl r) = inl (unshift f b s q k r)
  unshift (alt f g) b s q k (inr r) = inr (unshift g (b + positions f) s q k ((next-base f g b s q k).1 r))
  unshift (plus f) b s q k r = (r.0, r.1, unshift f b r.0 q k r.2)
  unshift (opt f) b s q k r = unshift f b s q k r
