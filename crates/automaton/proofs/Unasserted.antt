-- A tree without assertions has the same parts in every world: nothing in its written-out form asks
-- the world.
use mathlib.Core.Path.{◌≡◌, refl, fun_ext}
use mathlib.Core.Bool.{Bool, true, false, true≢false, ◌||◌}
use Prim.Native.Nat.{ℕ, zero, suc}
use Rattle.meaning.specs.Tree.{Extra, at_most, unbounded, empty, item, assertion, then, or, repeat}
use Rattle.meaning.specs.Form.{eps, take, check, seq, alt, plus, opt, write, copies, optionals, repeated}
use Rattle.meaning.specs.Rule.{Assertion}
use Rattle.meaning.specs.Automaton.{null, first, last, follow}
use Rattle.nodes.specs.Nodes.{Syntax, asserts}
use Rattle.automaton.specs.Parts.{world_of, form_parts, parts_of}
use Rattle.nodes.specs.Invariants.{Written}

-- ---- forms without assertions

Free : Written → Type 0
Free eps = Unit {0}
Free (take c) = Unit {0}
Free (check a) = ⊥
Free (seq f g) = Free f × Free g
Free (alt f g) = Free f × Free g
Free (plus f) = Free f
Free (opt f) = Free f

module _ (v w : Assertion → Bool) where
  same-null : (f : Written) → Free f → null v f ≡ null w f
  unfolding Free null
  same-null eps h = refl
  same-null (take c) h = refl
  same-null (check a) h = absurd h
  same-null (seq f g) h = rw (same-null f h.0, same-null g h.1)
  same-null (alt f g) h = rw (same-null f h.0, same-null g h.1)
  same-null (plus f) h = same-null f h
  same-null (opt f) h = refl

  same_first : (f : Written) → Free f → (b q : ℕ) → first v f b q ≡ first w f b q
  unfolding Free first
  same_first eps h b q = refl
  same_first (take c) h b q = refl
  same_first (check a) h b q = refl
  same_first (seq f g) h b q = rw (same_first f h.0, same-null f h.0, same_first g h.1)
  same_first (alt f g) h b q = rw (same_first f h.0, same_first g h.1)
  same_first (plus f) h b q = same_first f h b q
  same_first (opt f) h b q = same_first f h b q

  same-last : (f : Written) → Free f → (b p : ℕ) → last v f b p ≡ last w f b p
  unfolding Free last
  same-last eps h b p = refl
  same-last (take c) h b p = refl
  same-last (check a) h b p = refl
  same-last (seq f g) h b p = rw (same-last f h.0, same-null g h.1, same-last g h.1)
  same-last (alt f g) h b p = rw (same-last f h.0, same-last g h.1)
  same-last (plus f) h b p = same-last f h b p
  same-last (opt f) h b p = same-last f h b p

  same-follow : (f : Written) → Free f → (b p q : ℕ) → follow v f b p q ≡ follow w f b p q
  unfolding Free follow
  same-follow eps h b p q = refl
  same-follow (take c) h b p q = refl
  same-follow (check a) h b p q = refl
  same-follow (seq f g) h b p q =
      rw (same-follow f h.0, same-follow g h.1, same-last f h.0, same_first g h.1)
  same-follow (alt f g) h b p q = rw (same-follow f h.0, same-follow g h.1)
  same-follow (plus f) h b p q = rw (same-follow f h, same-last f h, same_first f h)
  same-follow (opt f) h b p q = same-follow f h b p q

-- ---- trees without assertions

module _ (f : Written) (h : Free f) where
  free-copies : (n : ℕ) (g : Written) → Free g → Free (copies n f g)
  unfolding Free copies
  free-copies zero g i = i
  free-copies (suc n) g i = (h, free-copies n g i)

  free-optionals : (j : ℕ) → Free (optionals j f)
  unfolding Free optionals
  free-optionals zero = tt
  free-optionals (suc j) = (h, free-optionals j)

  free-repeated : (n : ℕ) (j : Extra) → Free (repeated f n j)
  unfolding Free repeated
  free-repeated n (at_most j) = free-copies n (optionals j f) (free-optionals j)
  free-repeated zero unbounded = h
  free-repeated (suc n) unbounded = free-copies n (plus f) h

neither : (a b : Bool) → (a || b) ≡ false → (a ≡ false) × (b ≡ false)
neither true b h = absurd (true≢false h)
neither false b h = (refl, h)

free-write : (t : Syntax) → asserts t ≡ false → Free (write t)
unfolding Free write asserts
free-write empty h = tt
free-write (item c) h = tt
free-write (assertion a) h = absurd (true≢false h)
free-write (then x y) h =
    let n = neither (asserts x) (asserts y) h in
    (free-write x n.0, free-write y n.1)
free-write (or x y) h =
    let n = neither (asserts x) (asserts y) h in
    (free-write x n.0, free-write y n.1)
free-write (repeat x n j) h = free-repeated (write x) (free-write x h) n j

-- ---- their parts

pub same_parts : (t : Syntax) → asserts t ≡ false → (b v w : ℕ) → parts_of t b v ≡ parts_of t b w
unfolding parts_of form_parts
same_parts t h b v w =
    let f : Written = write t in
    let free = free-write t h in
    let firsts : first (world_of v) f b ≡ first (world_of w) f b =
    fun_ext (same_first (world_of v) (world_of w) f free b) in
    let lasts : last (world_of v) f b ≡ last (world_of w) f b =
    fun_ext (same-last (world_of v) (world_of w) f free b) in
    let follows : (p : ℕ) → follow (world_of v) f b p ≡ follow (world_of w) f b p =
    λ p. fun_ext (same-follow (world_of v) (world_of w) f free b p) in
    simp (firsts, lasts, follows)
