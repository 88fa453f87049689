-- The syntax tree of a pattern, and which spans of a text it matches.
-- C is the type of byte sets, A the type of assertions. Assumes nothing: these are definitions.
use Rattle.std.specs.Prelude.{◌≡◌, Bool, ◌⊎◌, ℕ, zero, suc, ◌+◌, ◌≤◌, T}

-- How many more than its least number of copies a repeat may take: `{n,m}` up to m - n more, `{n,}`
-- any number more.
pub data Extra : Type 0 where
  at_most : ℕ → Extra
  unbounded : Extra

-- Groups, alternation, empty branches and quantifiers: what is left of a pattern once it is read.
-- An item takes one byte and has its final set; an option, a class or a lazy mark leaves no other
-- trace.
pub data Tree (C A : Type 0) : Type 0 where
  empty : Tree C A
  item : C → Tree C A
  assertion : A → Tree C A
  then : Tree C A → Tree C A → Tree C A
  or : Tree C A → Tree C A → Tree C A
  repeat : Tree C A → (least : ℕ) → Extra → Tree C A

-- A text: at which offsets there is a byte of a set, and at which gaps an assertion is known to
-- hold. The gap k lies before offset k.
pub record Text (C A : Type 0) : Type 0 where
  pub hit : C → ℕ → Bool
  pub known : A → ℕ → Bool

-- k steps of R, one after the other
unfoldable pub Times : (ℕ → ℕ → Type 0) → ℕ → ℕ → ℕ → Type 0
Times R zero s e = s ≡ e
Times R (suc k) s e = (m : ℕ) × R s m × Times R k m e

-- a repeat may take k copies
unfoldable pub Allows : ℕ → Extra → ℕ → Type 0
Allows n (at_most j) k = (n ≤ k) × (k ≤ n + j)
Allows n unbounded k = n ≤ k

-- "A rule matches from s to e by the usual meaning of sequence, choice and repeat": the tree
-- matches the text from s to e.
unfoldable pub Means : {C A : Type 0} → Text C A → Tree C A → ℕ → ℕ → Type 0
Means t empty s e = s ≡ e
Means t (item c) s e = (suc s ≡ e) × T (t.hit c s)
Means t (assertion a) s e = (s ≡ e) × T (t.known a s)
Means t (then x y) s e = (m : ℕ) × Means t x s m × Means t y m e
Means t (or x y) s e = Means t x s e ⊎ Means t y s e
Means t (repeat x n j) s e = (k : ℕ) × Allows n j k × Times (Means t x) k s e
