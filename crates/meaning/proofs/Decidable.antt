-- Whether a form matches a span, and whether a way reaches a position, is decided: every part of a
-- match lies within its span, so all there is to try is finite. Assumes nothing.
use mathlib.Core.Path.{◌≡◌, refl, subst}
use mathlib.Core.Logic.{◌⊎◌, inl, inr}
use Prim.Native.Nat.{ℕ, zero, suc, ◌+◌, ◌≤◌, ◌<◌}
use native.Mathlib.Omega.{arith}
use native.Mathlib.Decide.{ℕ_discrete, dec_lt, map_dec}
use Rattle.meaning.specs.Tree.{Tree, Text, Means}
use Rattle.meaning.specs.Form.{Form, eps, take, check, seq, alt, plus, opt, Star, done, more, Match, positions, Reach, write}
use Rattle.meaning.specs.Live.{Reached}
use Rattle.meaning.proofs.Logic.{dec-T, dec-both, dec-either, dec_some}
use Rattle.meaning.proofs.Local.{match-up, reach-up}
use Rattle.meaning.proofs.Written.{written, unwritten}

module _ (R : ℕ → ℕ → Type 0) (dec : (s e : ℕ) → Dec (R s e)) (up : (s e : ℕ) → R s e → s ≤ e) where
  -- steps that stay where they are can be left out
  shorten : (s e : ℕ) → Star R s e → (s ≡ e) ⊎ ((m : ℕ) × (m < e) × (Star R s m × R m e))
  shorten s e done = inl refl
  shorten s e (more {m = m} l r) = elim (dec_lt m e) [
    | yes lt ↦ inr (m, lt, (l, r))
    | no ge ↦ let q : m ≡ e = omega (arith, up m e r) in
        subst (λ (x : ℕ). (s ≡ x) ⊎ ((m : ℕ) × (m < x) × (Star R s m × R m x))) q (shorten s m l)
  ]

  star-below : (s n e : ℕ) → e < n → Dec (Star R s e)
  star-below s zero e lt = no (λ h. omega arith)
  star-below s (suc n) e lt =
      map_dec
      (λ h. elim h [ inl q ↦ subst (λ (x : ℕ). Star R s x) q done | inr h ↦ more h.2.0 h.2.1 ])
      (λ h. shorten s e h)
      (dec-either (ℕ_discrete s e) (dec_some (λ m. Star R s m × R m e) e (λ m l. dec-both (star-below s n m (omega arith)) (dec m e))))

  pub star-dec : (s e : ℕ) → Dec (Star R s e)
  star-dec s e = star-below s (suc e) e (omega arith)

module _ {C A : Type 0} (t : Text C A) where
  pub match-dec : (f : Form C A) (s e : ℕ) → Dec (Match t f s e)
  unfolding Match
  match-dec eps s e = ℕ_discrete s e
  match-dec (take c) s e = dec-both (ℕ_discrete (suc s) e) (dec-T (t.hit c s))
  match-dec (check a) s e = dec-both (ℕ_discrete s e) (dec-T (t.known a s))
  match-dec (seq f g) s e =
      map_dec (λ h. (h.0, h.2.0, h.2.1)) (λ h. (h.0, omega (arith, match-up t g h.0 e h.2), (h.1, h.2)))
      (dec_some (λ m. Match t f s m × Match t g m e) (suc e) (λ m l. dec-both (match-dec f s m) (match-dec g m e)))
  match-dec (alt f g) s e = dec-either (match-dec f s e) (match-dec g s e)
  match-dec (plus f) s e =
      map_dec (λ h. (h.0, h.2.0, h.2.1)) (λ h. (h.0, omega (arith, match-up t f h.0 e h.2), (h.1, h.2)))
      (dec_some (λ m. Star (Match t f) s m × Match t f m e) (suc e)
      (λ m l. dec-both (star-dec (Match t f) (λ x y. match-dec f x y) (λ x y h. match-up t f x y h) s m) (match-dec f m e)))
  match-dec (opt f) s e = dec-either (ℕ_discrete s e) (match-dec f s e)

  pub reach-dec : (f : Form C A) (b s q k : ℕ) → Dec (Reach t f b s q k)
  unfolding Reach
  reach-dec eps b s q k = no (λ h. h)
  reach-dec (take c) b s q k = map_dec (λ h. (h.0, h.1.0, h.1.1)) (λ h. (h.0, (h.1, h.2)))
      (dec-both (ℕ_discrete q b) (dec-both (ℕ_discrete (suc s) k) (dec-T (t.hit c s))))
  reach-dec (check a) b s q k = no (λ h. h)
  reach-dec (seq f g) b s q k = dec-either (reach-dec f b s q k)
      (map_dec (λ h. (h.0, h.2.0, h.2.1)) (λ h. (h.0, reach-up t g (b + positions f) h.0 q k h.2, (h.1, h.2)))
      (dec_some (λ m. Match t f s m × Reach t g (b + positions f) m q k) k (λ m l. dec-both (match-dec f s m) (reach-dec g (b + positions f) m q k))))
  reach-dec (alt f g) b s q k = dec-either (reach-dec f b s q k) (reach-dec g (b + positions f) s q k)
  reach-dec (plus f) b s q k =
      map_dec (λ h. (h.0, h.2.0, h.2.1)) (λ h. (h.0, reach-up t f b h.0 q k h.2, (h.1, h.2)))
      (dec_some (λ m. Star (Match t f) s m × Reach t f b m q k) k
      (λ m l. dec-both (star-dec (Match t f) (λ x y. match-dec f x y) (λ x y h. match-up t f x y h) s m) (reach-dec f b m q k)))
  reach-dec (opt f) b s q k = reach-dec f b s q k

  pub reached-dec : (f : Form C A) (b q k : ℕ) → Dec (Reached t f b q k)
  reached-dec f b q k =
      map_dec (λ h. (h.0, h.2)) (λ h. (h.0, reach-up t f b h.0 q k h.1, h.1))
      (dec_some (λ s. Reach t f b s q k) k (λ s l. reach-dec f b s q k))

  pub means-dec : (x : Tree C A) (s e : ℕ) → Dec (Means t x s e)
  means-dec x s e = map_dec (λ h. unwritten t x s e h) (λ h. written t x s e h) (match-dec (write x) s e)
