-- A set that a loop collects byte by byte: where the loop has come to n, the set has the members of
-- f below n.
use mathlib.Core.Path.{◌≡◌, refl, sym, ap, ◌∙◌}
use mathlib.Core.Bool.{Bool, true, false, ◌&&◌, ◌||◌, and-true, and-false, or-false, and-or_distrib_left}
use mathlib.Core.List.{List}
use Prim.Native.Nat.{ℕ, ◌+◌, ◌≤◌}
use native.Mathlib.Omega.{arith}
use borrow.Author.Tests.{lt-ltb, le-ltb, eqb-true}
use lib.Dec.{eqb, ltb}
use Rattle.sets.specs.Set.{set_of, empty_set, inserted}
use Rattle.sets.proofs.Laws.{set_of-ext, inserted-set_of, below_next}

-- the members of f below n
abbrev pub members_below : (ℕ → Bool) → ℕ → List ℕ
members_below f n = set_of (λ q. f q && ltb q n)

module _ (f : ℕ → Bool) where
  at_n : (n q : ℕ) → (f q && eqb q n) ≡ (f n && eqb q n)
  at_n n q = go (eqb q n) refl
    where
      go : (t : Bool) → eqb q n ≡ t → (f q && t) ≡ (f n && t)
      go true e = ap (λ (k : ℕ). f k && true) (eqb-true q n e)
      go false e = and-false (f q) ∙ sym (and-false (f n))

  -- one byte more, by f's answer at it
  next : (n : ℕ) (t : Bool) → f n ≡ t → members_below f (n + 1) ≡ set_of (λ q. (f q && ltb q n) || (t && eqb q n))
  next n t e =
      set_of-ext (λ q. f q && ltb q (n + 1)) (λ q. (f q && ltb q n) || (t && eqb q n))
      (λ q l.
      ap (λ (x : Bool). f q && x) (below_next q n) ∙ and-or_distrib_left (f q) (ltb q n) (eqb q n)
      ∙ ap (λ (x : Bool). (f q && ltb q n) || x) (at_n n q ∙ ap (λ (x : Bool). x && eqb q n) e))

  pub begun : empty_set ≡ members_below f 0
  unfolding empty_set
  begun = set_of-ext (λ q. false) (λ q. f q && ltb q 0) (λ q l. sym (ap (λ (x : Bool). f q && x) (le-ltb q 0 (omega arith)) ∙ and-false (f q)))

  module _ (n : ℕ) {s : List ℕ} (so_far : s ≡ members_below f n) where
    pub grown : f n ≡ true → inserted s n ≡ members_below f (n + 1)
    grown e = ap (λ (x : List ℕ). inserted x n) so_far ∙ inserted-set_of (λ q. f q && ltb q n) n ∙ sym (next n true e)

    pub kept : f n ≡ false → s ≡ members_below f (n + 1)
    kept e =
        so_far ∙ sym (next n false e ∙ set_of-ext (λ q. (f q && ltb q n) || false) (λ q. f q && ltb q n) (λ q l. or-false (f q && ltb q n)))

    pub collected : 256 ≤ n → s ≡ set_of f
    collected h = so_far ∙ set_of-ext (λ q. f q && ltb q n) f (λ q l. ap (λ (x : Bool). f q && x) (lt-ltb q n (omega arith)) ∙ and-true (f q))
