-- Null, first, last and follow of a form as relations, and the byte sets of its positions as one:
-- what the theorems argue with. `Computed` has that the functions of specs/Automaton.antt compute
-- them.
use mathlib.Core.Path.{◌≡◌}
use mathlib.Core.Logic.{◌⊎◌}
use mathlib.Core.Bool.{Bool}
use Prim.Native.Nat.{ℕ, ◌+◌}
use lib.Dec.{T}
use Rattle.meaning.specs.Form.{Form, eps, take, check, seq, alt, plus, opt, positions}

module _ {C A : Type 0} (w : A → Bool) where
  unfoldable pub Null : Form C A → Type 0
  Null eps = Unit {0}
  Null (take c) = ⊥
  Null (check a) = T (w a)
  Null (seq f g) = Null f × Null g
  Null (alt f g) = Null f ⊎ Null g
  Null (plus f) = Null f
  Null (opt f) = Unit {0}

  unfoldable pub First : Form C A → (b q : ℕ) → Type 0
  First eps b q = ⊥
  First (take c) b q = q ≡ b
  First (check a) b q = ⊥
  First (seq f g) b q = First f b q ⊎ (Null f × First g (b + positions f) q)
  First (alt f g) b q = First f b q ⊎ First g (b + positions f) q
  First (plus f) b q = First f b q
  First (opt f) b q = First f b q

  unfoldable pub Last : Form C A → (b p : ℕ) → Type 0
  Last eps b p = ⊥
  Last (take c) b p = p ≡ b
  Last (check a) b p = ⊥
  Last (seq f g) b p = (Last f b p × Null g) ⊎ Last g (b + positions f) p
  Last (alt f g) b p = Last f b p ⊎ Last g (b + positions f) p
  Last (plus f) b p = Last f b p
  Last (opt f) b p = Last f b p

  unfoldable pub Follow : Form C A → (b p q : ℕ) → Type 0
  Follow eps b p q = ⊥
  Follow (take c) b p q = ⊥
  Follow (check a) b p q = ⊥
  Follow (seq f g) b p q = Follow f b p q ⊎ Follow g (b + positions f) p q ⊎ (Last f b p × First g (b + positions f) q)
  Follow (alt f g) b p q = Follow f b p q ⊎ Follow g (b + positions f) p q
  Follow (plus f) b p q = Follow f b p q ⊎ (Last f b p × First f b q)
  Follow (opt f) b p q = Follow f b p q

-- position q of the form takes the bytes of the set tab q
unfoldable pub Takes : {C A : Type 0} → (ℕ → C) → Form C A → (b : ℕ) → Type 0
Takes tab eps b = Unit {0}
Takes tab (take c) b = tab b ≡ c
Takes tab (check a) b = Unit {0}
Takes tab (seq f g) b = Takes tab f b × Takes tab g (b + positions f)
Takes tab (alt f g) b = Takes tab f b × Takes tab g (b + positions f)
Takes tab (plus f) b = Takes tab f b
Takes tab (opt f) b = Takes tab f b
