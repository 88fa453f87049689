-- The position automaton (Glushkov's) of a form: null, first, last and follow in a world, by the
-- form's structure. A world says which assertions hold at a gap. Assumes nothing: these are
-- definitions.
use Rattle.std.specs.Prelude.{Bool, true, false, ◌&&◌, ◌||◌, List, [], ◌∷◌, ◌++◌, ℕ, ◌+◌, eqb}
use Rattle.meaning.specs.Form.{Form, eps, take, check, seq, alt, plus, opt, positions}

module _ {C A : Type 0} (w : A → Bool) where
  -- the form matches nothing at a gap of this world
  unfoldable pub null : Form C A → Bool
  null eps = true
  null (take c) = false
  null (check a) = w a
  null (seq f g) = null f && null g
  null (alt f g) = null f || null g
  null (plus f) = null f
  null (opt f) = true

  -- a way from a gap of this world can take its first byte at position q
  unfoldable pub first : Form C A → (b q : ℕ) → Bool
  first eps b q = false
  first (take c) b q = eqb q b
  first (check a) b q = false
  first (seq f g) b q = first f b q || (null f && first g (b + positions f) q)
  first (alt f g) b q = first f b q || first g (b + positions f) q
  first (plus f) b q = first f b q
  first (opt f) b q = first f b q

  -- a way that took its last byte at position p can end at a gap of this world
  unfoldable pub last : Form C A → (b p : ℕ) → Bool
  last eps b p = false
  last (take c) b p = eqb p b
  last (check a) b p = false
  last (seq f g) b p = (last f b p && null g) || last g (b + positions f) p
  last (alt f g) b p = last f b p || last g (b + positions f) p
  last (plus f) b p = last f b p
  last (opt f) b p = last f b p

  -- a way can take one byte at position p and, with a gap of this world between, the next at q
  unfoldable pub follow : Form C A → (b p q : ℕ) → Bool
  follow eps b p q = false
  follow (take c) b p q = false
  follow (check a) b p q = false
  follow (seq f g) b p q = follow f b p q || (follow g (b + positions f) p q || (last f b p && first g (b + positions f) q))
  follow (alt f g) b p q = follow f b p q || follow g (b + positions f) p q
  follow (plus f) b p q = follow f b p q || (last f b p && first f b q)
  follow (opt f) b p q = follow f b p q

-- the byte sets of a form's positions, from left to right
unfoldable pub items : {C A : Type 0} → Form C A → List C
items eps = []
items (take c) = c ∷ []
items (check a) = []
items (seq f g) = items f ++ items g
items (alt f g) = items f ++ items g
items (plus f) = items f
items (opt f) = items f
