-- The owners of a set's positions, collected one a turn: after the positions below n, those of the
-- members below n.
use mathlib.Core.Path.{◌≡◌, refl, sym, ap, ap₂, ◌∙◌}
use mathlib.Core.Bool.{Bool, true, false, cond, ◌&&◌, ◌||◌, or-false, and-false}
use mathlib.Core.List.{List}
use Prim.Native.Nat.{ℕ, zero, suc, ◌+◌, ◌-◌, ◌*◌, ◌^◌, ◌<◌, ◌≤◌}
use native.Mathlib.Nat.{add-zero, add-suc}
use native.Mathlib.Numerals.{add-one}
use native.Mathlib.Decide.{dec_lt, ℕ_discrete}
use native.Mathlib.Omega.{arith}
use lib.Bits.{bit_or, or_lt}
use lib.Count.{ones}
use lib.Dec.{eqb, ltb}
use lib.ListN.{get_or}
use lib.Pow.{pow-lt}
use borrow.Author.Tests.{lt-ltb, le-ltb, eq-eqb, ne_eqb}
use Rattle.sets.specs.Set.{has, word_of, any}
use Rattle.sets.proofs.Bits.{on_or, on-pow, on-word_of, word_of-ext, word_of-lt, on-zero}
use Rattle.table.specs.Layout.{max_rules, owner_at}
use Rattle.steps.specs.Invariants.{with_owner, collected, owners_of}
use Rattle.table.proofs.Members.{word-is}
use Rattle.steps.proofs.Turned.{turned-word}

module _ (t : List ℕ) (rules : ℕ) (few : rules ≤ max_rules) (set : List ℕ) where
  abbrev owner_of : ℕ → ℕ
  owner_of p = get_or t (owner_at p) 0

  -- the rule in place a owns a member below n
  abbrev owns : ℕ → ℕ → Bool
  owns n a = ltb a rules && any n (λ p. has set p && eqb (owner_of p) a)

  abbrev state : ℕ → ℕ
  state n = owners_of t rules set n

  owns-more : (n a : ℕ) → owns (n + 1) a ≡ (ltb a rules && (any n (λ p. has set p && eqb (owner_of p) a) || (has set n && eqb (owner_of n) a)))
  unfolding any
  owns-more n a = ap (λ (m : ℕ). ltb a rules && any m (λ p. has set p && eqb (owner_of p) a)) (add-one n)

  -- where n adds nothing for a
  same : (n a : ℕ) → (a < rules → (has set n && eqb (owner_of n) a) ≡ false) → owns n a ≡ owns (n + 1) a
  same n a e = go (dec_lt a rules) ∙ sym (owns-more n a)
    where
      old : Bool
      old = any n (λ p. has set p && eqb (owner_of p) a)

      go : Dec (a < rules) → (ltb a rules && old) ≡ (ltb a rules && (old || (has set n && eqb (owner_of n) a)))
      go (yes l) = ap (λ (b : Bool). ltb a rules && b) (sym (ap (λ (c : Bool). old || c) (e l) ∙ or-false old))
      go (no l) = ap (λ (b : Bool). b && old) (le-ltb a rules (omega arith)) ∙ sym (ap (λ (b : Bool). b && (old || (has set n && eqb (owner_of n) a))) (le-ltb a rules (omega arith)))

  owned-miss : (n : ℕ) → has set n ≡ false → state n ≡ state (n + 1)
  unfolding owners_of
  owned-miss n e = word_of-ext 64 (owns n) (owns (n + 1)) (λ a h. same n a (λ l. ap (λ (b : Bool). b && eqb (owner_of n) a) e))

  pub owned-hit : (n : ℕ) → has set n ≡ true → with_owner rules (owner_of n) (state n) ≡ state (n + 1)
  unfolding owners_of with_owner
  owned-hit n e = go (dec_lt (owner_of n) rules)
    where
      digit : owner_of n < rules → (a : ℕ) → Dec (owner_of n ≡ a) → (owns n a || eqb a (owner_of n)) ≡ owns (n + 1) a
      digit l a (yes z) =
          ap₂ (λ (b c : Bool). (b && any n (λ p. has set p && eqb (owner_of p) a)) || c) (lt-ltb a rules (omega arith)) (eq-eqb a (owner_of n) (sym z))
          ∙ or-true (any n (λ p. has set p && eqb (owner_of p) a))
          ∙ sym (owns-more n a
          ∙ ap₂ (λ (b c : Bool). b && (any n (λ p. has set p && eqb (owner_of p) a) || c)) (lt-ltb a rules (omega arith)) (ap₂ (λ (b c : Bool). b && c) e (eq-eqb (owner_of n) a z))
          ∙ or-true (any n (λ p. has set p && eqb (owner_of p) a)))
        where
          or-true : (b : Bool) → (b || true) ≡ true
          or-true true = refl
          or-true false = refl
      digit l a (no z) =
          ap (λ (c : Bool). owns n a || c) (ne_eqb a (owner_of n) (λ y. z (sym y))) ∙ or-false (owns n a)
          ∙ same n a (λ m. ap (λ (c : Bool). has set n && c) (ne_eqb (owner_of n) a z) ∙ and-false (has set n))

      go : Dec (owner_of n < rules) → cond (ltb (owner_of n) rules) (bit_or (word_of 64 (owns n)) (2 ^ owner_of n)) (word_of 64 (owns n)) ≡ word_of 64 (owns (n + 1))
      go (yes l) =
          let small : owner_of n < 64 = omega arith in
          rw (lt-ltb (owner_of n) rules l)
          (word-is (bit_or (word_of 64 (owns n)) (2 ^ owner_of n)) (owns (n + 1)) (or_lt 64 (word_of 64 (owns n)) (2 ^ owner_of n) (word_of-lt 64 (owns n)) (pow-lt small))
          (λ a h. on_or (word_of 64 (owns n)) (2 ^ owner_of n) a ∙ ap₂ (λ (x y : Bool). x || y) (on-word_of 64 (owns n) a h) (on-pow (owner_of n) a) ∙ digit l a (ℕ_discrete (owner_of n) a)))
      go (no l) =
          rw (le-ltb (owner_of n) rules (omega arith))
          (word_of-ext 64 (owns n) (owns (n + 1)) (λ a h. same n a (λ m. ap (λ (c : Bool). has set n && c) (ne_eqb (owner_of n) a (λ z. omega arith)) ∙ and-false (has set n))))

  owned-on : (n d : ℕ) → ((p : ℕ) → n ≤ p → p < n + d → has set p ≡ false) → state n ≡ state (n + d)
  owned-on n zero e = ap state (sym (add-zero n))
  owned-on n (suc d) e =
      owned-on n d (λ p h l. e p h (omega arith)) ∙ owned-miss (n + d) (e (n + d) (omega arith) (omega arith)) ∙ ap state (add-one (n + d) ∙ sym (add-suc n d))

  pub owned-skip : (m n : ℕ) → m ≤ n → ((p : ℕ) → m ≤ p → p < n → has set p ≡ false) → state m ≡ state n
  owned-skip m n h e =
      let whole : m + (n - m) ≡ n = omega arith in
      owned-on m (n - m) (λ p g l. e p g (omega arith)) ∙ ap state whole

  pub owned-none : 0 ≡ state 0
  unfolding owners_of any
  owned-none = word-is 0 (owns 0) (omega arith) (λ a h. on-zero a ∙ sym (and-false (ltb a rules)))

  pub owned-word : (i : ℕ) → get_or set i 0 < 2 ^ 64 → (x : ℕ) → x ≡ state (i * 64) → collected t rules (get_or set i 0) (i * 64) x (ones (get_or set i 0)) ≡ state (i * 64 + 64)
  unfolding collected
  owned-word i fits x e =
      turned-word set state (λ s p. with_owner rules (owner_of p) s) owned-hit owned-skip i fits (collected t rules (get_or set i 0) (i * 64) x) e (λ n. refl)
