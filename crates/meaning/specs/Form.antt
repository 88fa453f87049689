-- The written-out form of a tree (a term of the product's rules), the spans it matches, its
-- positions, and which positions a way through it reaches. Assumes nothing: these are definitions.
use Rattle.std.specs.Prelude.{◌≡◌, ◌⊎◌, ℕ, zero, suc, ◌+◌, T}
use Rattle.meaning.specs.Tree.{Tree, empty, item, assertion, then, or, repeat, Extra, at_most, unbounded, Text}

-- nothing, an item, an assertion, one after the other, one of two, one or more, at most one
pub data Form (C A : Type 0) : Type 0 where
  eps : Form C A
  take : C → Form C A
  check : A → Form C A
  seq : Form C A → Form C A → Form C A
  alt : Form C A → Form C A → Form C A
  plus : Form C A → Form C A
  opt : Form C A → Form C A

-- n copies of f, then g
unfoldable pub copies : {C A : Type 0} → ℕ → Form C A → Form C A → Form C A
copies zero f g = g
copies (suc n) f g = seq f (copies n f g)

-- j copies of f "nested as optional, each inside the one before"
unfoldable pub optionals : {C A : Type 0} → ℕ → Form C A → Form C A
optionals zero f = eps
optionals (suc j) f = opt (seq f (optionals j f))

-- "`X{n,m}` is n copies, then m-n copies nested as optional, each inside the one before; `X{n,}`
-- with n at least 1 is n-1 copies and then `X+`; `{0}` is nothing." `X*` is `X{0,}`: at most one
-- `X+`.
unfoldable pub repeated : {C A : Type 0} → Form C A → ℕ → Extra → Form C A
repeated f n (at_most j) = copies n f (optionals j f)
repeated f zero unbounded = opt (plus f)
repeated f (suc n) unbounded = copies n f (plus f)

-- the written-out form of a tree
unfoldable pub write : {C A : Type 0} → Tree C A → Form C A
write empty = eps
write (item c) = take c
write (assertion a) = check a
write (then x y) = seq (write x) (write y)
write (or x y) = alt (write x) (write y)
write (repeat x n j) = repeated (write x) n j

-- none or more steps of R, one after the other
pub data Star (R : ℕ → ℕ → Type 0) (s : ℕ) : ℕ → Type 0 where
  done : Star R s s
  more : {m e : ℕ} → Star R s m → R m e → Star R s e

-- the form matches the text from s to e
unfoldable pub Match : {C A : Type 0} → Text C A → Form C A → ℕ → ℕ → Type 0
Match t eps s e = s ≡ e
Match t (take c) s e = (suc s ≡ e) × T (t.hit c s)
Match t (check a) s e = (s ≡ e) × T (t.known a s)
Match t (seq f g) s e = (m : ℕ) × Match t f s m × Match t g m e
Match t (alt f g) s e = Match t f s e ⊎ Match t g s e
Match t (plus f) s e = (m : ℕ) × Star (Match t f) s m × Match t f m e
Match t (opt f) s e = (s ≡ e) ⊎ Match t f s e

-- "Positions are the byte-taking items of this written-out form", here their number. A form's
-- positions are numbered from a base b on, from left to right, so copies have positions of their
-- own.
unfoldable pub positions : {C A : Type 0} → Form C A → ℕ
positions eps = 0
positions (take c) = 1
positions (check a) = 0
positions (seq f g) = positions f + positions g
positions (alt f g) = positions f + positions g
positions (plus f) = positions f
positions (opt f) = positions f

-- A way through the form that began at s has matched the text up to k, "its last byte taken by that
-- position" q "and every assertion before it known to hold".
unfoldable pub Reach : {C A : Type 0} → Text C A → Form C A → (b s q k : ℕ) → Type 0
Reach t eps b s q k = ⊥
Reach t (take c) b s q k = (q ≡ b) × (suc s ≡ k) × T (t.hit c s)
Reach t (check a) b s q k = ⊥
Reach t (seq f g) b s q k = Reach t f b s q k ⊎ ((m : ℕ) × Match t f s m × Reach t g (b + positions f) m q k)
Reach t (alt f g) b s q k = Reach t f b s q k ⊎ Reach t g (b + positions f) s q k
Reach t (plus f) b s q k = (m : ℕ) × Star (Match t f) s m × Reach t f b m q k
Reach t (opt f) b s q k = Reach t f b s q k
