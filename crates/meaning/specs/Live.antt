-- Live positions and the busy figure (a term of the product's rules) by meaning. Assumes nothing:
-- these are definitions.
use Rattle.std.specs.Prelude.{◌≡◌, false, List, [], ◌∷◌, ℕ, suc, ◌+◌, length}
use Rattle.meaning.specs.Tree.{Text}
use Rattle.meaning.specs.Form.{Form, write, positions, Reach}
use Rattle.meaning.specs.Rule.{Rule, stream}

-- some way through the form has just taken the byte before k at position q
abbrev pub Reached : {C A : Type 0} → Text C A → Form C A → (b q k : ℕ) → Type 0
Reached t f b q k = (s : ℕ) × Reach t f b s q k

-- "A position of the written-out form is live when, from some start, a way through the form matches
-- the bytes up to now, its last byte taken by that position and every assertion before it known to
-- hold." The rule's positions are numbered from 0 on.
abbrev pub Live : Rule → List ℕ → ℕ → Type 0
Live r bytes q = Reached (stream bytes false) (write r.tree) 0 q (length bytes)

-- so many numbers below n have Q
pub data Counts (Q : ℕ → Type 0) : (n k : ℕ) → Type 0 where
  none : Counts Q 0 0
  one : {n k : ℕ} → Q n → Counts Q n k → Counts Q (suc n) (suc k)
  skip : {n k : ℕ} → ¬ Q n → Counts Q n k → Counts Q (suc n) k

-- "the number of live positions", all rules together: "This counts rules that have already reported
-- too."
unfoldable pub Busy : List Rule → List ℕ → ℕ → Type 0
Busy [] bytes n = n ≡ 0
Busy (r ∷ rules) bytes n = (k m : ℕ) × Counts (Live r bytes) (positions (write r.tree)) k × Busy rules bytes m × (n ≡ k + m)
