-- A move writes the marks of the form's own positions and no others, and what can end in a form is
-- read from those alone. Assumes nothing.
use mathlib.Core.Path.{◌≡◌, refl, ap, ap₂, ◌∙◌}
use mathlib.Core.Bool.{Bool}
use mathlib.Core.List.{List}
use Prim.Native.Nat.{ℕ, ◌+◌, min, ◌≤◌}
use native.Mathlib.Omega.{arith}
use lib.ListN.{length, get_or, length-set}
use lib.Seq.{get_or-set_other}
use Rattle.meaning.specs.Form.{Form, eps, take, check, seq, alt, plus, opt, positions}
use Rattle.meaning.specs.Automaton.{null}
use Rattle.meaning.proofs.Range.{Inside}
use Rattle.marks.specs.Marks.{none, when, ends, past, moved}

module _ {C A : Type 0} (w : A → Bool) where
  pub ends_low : (f : Form C A) (b : ℕ) (ms : List ℕ) → ends w f b ms ≤ none
  unfolding ends
  ends_low eps b ms = omega arith
  ends_low (take c) b ms = omega arith
  ends_low (check a) b ms = omega arith
  ends_low (seq f g) b ms = let l = ends_low g (b + positions f) ms in omega arith
  ends_low (alt f g) b ms = let l = ends_low f b ms in omega arith
  ends_low (plus f) b ms = ends_low f b ms
  ends_low (opt f) b ms = ends_low f b ms

  pub ends_same : (f : Form C A) (b : ℕ) (ms ns : List ℕ) → ((q : ℕ) → Inside f b q → get_or ms q 0 ≡ get_or ns q 0) → ends w f b ms ≡ ends w f b ns
  unfolding ends positions
  ends_same eps b ms ns h = refl
  ends_same (take c) b ms ns h = ap (λ (x : ℕ). min x none) (h b (omega arith))
  ends_same (check a) b ms ns h = refl
  ends_same (seq f g) b ms ns h =
      ap₂ (λ (x y : ℕ). min (when (null w g) x) y) (ends_same f b ms ns (λ q i. h q (omega arith)))
      (ends_same g (b + positions f) ms ns (λ q i. h q (omega arith)))
  ends_same (alt f g) b ms ns h =
      ap₂ (λ (x y : ℕ). min x y) (ends_same f b ms ns (λ q i. h q (omega arith)))
      (ends_same g (b + positions f) ms ns (λ q i. h q (omega arith)))
  ends_same (plus f) b ms ns h = ends_same f b ms ns h
  ends_same (opt f) b ms ns h = ends_same f b ms ns h

  module _ (h : C → Bool) where
    pub moved-long : (f : Form C A) (b come : ℕ) (ms : List ℕ) → length (moved w h f b come ms) ≡ length ms
    unfolding moved
    moved-long eps b i ms = refl
    moved-long (take c) b i ms = length-set ms b (when (h c) i)
    moved-long (check a) b i ms = refl
    moved-long (seq f g) b i ms = moved-long g (b + positions f) (past w f b i ms) (moved w h f b i ms) ∙ moved-long f b i ms
    moved-long (alt f g) b i ms = moved-long g (b + positions f) i (moved w h f b i ms) ∙ moved-long f b i ms
    moved-long (plus f) b i ms = moved-long f b (min i (ends w f b ms)) ms
    moved-long (opt f) b i ms = moved-long f b i ms

    pub moved-outside : (f : Form C A) (b come : ℕ) (ms : List ℕ) (q : ℕ) → ¬ Inside f b q → get_or (moved w h f b come ms) q 0 ≡ get_or ms q 0
    unfolding moved positions
    moved-outside eps b i ms q n = refl
    moved-outside (take c) b i ms q n = get_or-set_other ms b q (when (h c) i) 0 (λ e. n (omega arith))
    moved-outside (check a) b i ms q n = refl
    moved-outside (seq f g) b i ms q n =
        moved-outside g (b + positions f) (past w f b i ms) (moved w h f b i ms) q (λ l. n (omega arith)) ∙ moved-outside f b i ms q (λ l. n (omega arith))
    moved-outside (alt f g) b i ms q n =
        moved-outside g (b + positions f) i (moved w h f b i ms) q (λ l. n (omega arith)) ∙ moved-outside f b i ms q (λ l. n (omega arith))
    moved-outside (plus f) b i ms q n = moved-outside f b (min i (ends w f b ms)) ms q n
    moved-outside (opt f) b i ms q n = moved-outside f b i ms q n

    -- so what can end in the next part is not changed by moving the one before
    pub ends-behind : (f g : Form C A) (b come : ℕ) (ms : List ℕ) → ends w g (b + positions f) (moved w h f b come ms) ≡ ends w g (b + positions f) ms
    ends-behind f g b i ms = ends_same g (b + positions f) (moved w h f b i ms) ms (λ q l. moved-outside f b i ms q (λ m. omega arith))
