-- There is exactly one busy figure: whether a position is live is decided, and a count is one
-- number. Assumes nothing.
use mathlib.Core.Path.{◌≡◌, refl, sym, ap, ◌∙◌}
use mathlib.Core.Bool.{false}
use mathlib.Core.List.{List, [], ◌∷◌}
use Prim.Native.Nat.{ℕ, zero, suc, ◌+◌}
use native.Mathlib.Omega.{arith}
use lib.ListN.{length}
use Rattle.meaning.specs.Form.{write, positions}
use Rattle.meaning.specs.Rule.{Rule, stream}
use Rattle.meaning.specs.Live.{Live, Counts, none, one, skip, Busy}
use Rattle.meaning.proofs.Decidable.{reached-dec}

module _ (Q : ℕ → Type 0) where
  pub counts_some : ((k : ℕ) → Dec (Q k)) → (n : ℕ) → (k : ℕ) × Counts Q n k
  counts_some dec zero = (0, none)
  counts_some dec (suc n) = go (dec n) (counts_some dec n)
    where
      go : Dec (Q n) → (k : ℕ) × Counts Q n k → (k : ℕ) × Counts Q (suc n) k
      go (yes q) r = (suc r.0, one q r.1)
      go (no q) r = (r.0, skip q r.1)

  pub counts-one : (n j k : ℕ) → Counts Q n j → Counts Q n k → j ≡ k
  counts-one zero j k none none = refl
  counts-one (suc n) j k (one {k = a} p x) (one {k = b} q y) = ap suc (counts-one n a b x y)
  counts-one (suc n) j k (one p x) (skip q y) = absurd (q p)
  counts-one (suc n) j k (skip p x) (one q y) = absurd (p q)
  counts-one (suc n) j k (skip p x) (skip q y) = counts-one n j k x y

pub busy-some : (rules : List Rule) (bytes : List ℕ) → (n : ℕ) × Busy rules bytes n
unfolding Busy
busy-some [] bytes = (0, refl)
busy-some (r ∷ rules) bytes =
    let c = counts_some (Live r bytes) (λ q. reached-dec (stream bytes false) (write r.tree) 0 q (length bytes)) (positions (write r.tree)) in
    let rest = busy-some rules bytes in
    (c.0 + rest.0, (c.0, rest.0, c.1, rest.1, refl))

pub busy-one : (rules : List Rule) (bytes : List ℕ) (m n : ℕ) → Busy rules bytes m → Busy rules bytes n → m ≡ n
unfolding Busy
busy-one [] bytes m n a b = a ∙ sym b
busy-one (r ∷ rules) bytes m n a b =
    let p : a.0 ≡ b.0 = counts-one (Live r bytes) (positions (write r.tree)) a.0 b.0 a.2 b.2 in
    let q : a.1 ≡ b.1 = busy-one rules bytes a.1 b.1 a.3 b.3 in
    omega (arith, a.4, b.4)
