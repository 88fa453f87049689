-- The number of positions of a tree's written-out form, worked out from the tree, exactly and
-- saturating; and whether a tree could match no bytes. Assumes nothing: these are definitions.
use Rattle.std.specs.Prelude.{Bool, true, false, ◌&&◌, ◌||◌, ℕ, zero, suc, ◌+◌, ◌*◌, min, max}
use Rattle.meaning.specs.Tree.{Tree, empty, item, assertion, then, or, repeat, Extra, at_most, unbounded, Text, Means}

-- how many copies of its inside a repeat has in the written-out form: `X+` is one
unfoldable pub copied : ℕ → Extra → ℕ
copied n (at_most j) = n + j
copied n unbounded = max n 1

-- the number of positions: "A repeat inside a repeat multiplies, so whether the count passes 256 is
-- worked out exactly"
unfoldable pub exact : {C A : Type 0} → Tree C A → ℕ
exact empty = 0
exact (item c) = 1
exact (assertion a) = 0
exact (then x y) = exact x + exact y
exact (or x y) = exact x + exact y
exact (repeat x n j) = copied n j * exact x

-- "Positions in a table: 256", "over 256 positions in this rule"
abbrev pub limit : ℕ
limit = 256

-- a number as it is up to the limit, and one more than the limit for all above
unfoldable pub capped : ℕ → ℕ
capped n = min n (suc limit)

-- the count as a program keeps it: no part of it is above the limit by more than one, so no product
-- or sum of two parts is large
unfoldable pub saturating : {C A : Type 0} → Tree C A → ℕ
saturating empty = 0
saturating (item c) = 1
saturating (assertion a) = 0
saturating (then x y) = capped (saturating x + saturating y)
saturating (or x y) = capped (saturating x + saturating y)
saturating (repeat x n j) = capped (copied n j * saturating x)

-- "the rule could match no bytes, were all its assertions true"
unfoldable pub nullable : {C A : Type 0} → Tree C A → Bool
nullable empty = true
nullable (item c) = false
nullable (assertion a) = true
nullable (then x y) = nullable x && nullable y
nullable (or x y) = nullable x || nullable y
nullable (repeat x zero j) = true
nullable (repeat x (suc n) j) = nullable x

-- The same by meaning: it matches the empty span at 0 where every assertion holds.
abbrev pub granting : {C A : Type 0} → Text C A
granting = record { hit = λ c k. false; known = λ a k. true }

abbrev pub MatchesEmpty : {C A : Type 0} → Tree C A → Type 0
MatchesEmpty x = Means granting x 0 0
