-- The walk over one word of a set, turn by turn, of whatever it collects: where asking a member
-- moves what is collected one place on, and what is no member moves it on unasked, all turns over a
-- word move it past the word.
use mathlib.Core.Path.{◌≡◌, sym, ap, ◌∙◌}
use mathlib.Core.Bool.{true, false}
use mathlib.Core.List.{List}
use Prim.Native.Nat.{ℕ, zero, suc, ◌+◌, ◌-◌, ◌*◌, ◌^◌, ◌<◌, ◌≤◌}
use native.Mathlib.Nat.{add-zero}
use native.Mathlib.Omega.{arith}
use lib.Count.{ones}
use lib.ListN.{get_or}
use Rattle.sets.specs.Set.{on, has}
use Rattle.sets.proofs.Laws.{has-at}
use Rattle.steps.specs.Walk.{asked}
use Rattle.steps.proofs.Asked.{place, after, some_left, from_place, lowest-inside, lowest_set, between, none-past}

module _ {A : Type 0} (set : List ℕ) (state : ℕ → A) (ask : A → ℕ → A) (hit : (n : ℕ) → has set n ≡ true → ask (state n) n ≡ state (n + 1))
    (skip : (m n : ℕ) → m ≤ n → ((p : ℕ) → m ≤ p → p < n → has set p ≡ false) → state m ≡ state n)
    (i : ℕ) (fits : get_or set i 0 < 2 ^ 64) (turn : ℕ → A) (begun : turn 0 ≡ state (i * 64))
    (next : (n : ℕ) → turn (suc n) ≡ ask (turn n) (i * 64 + asked (get_or set i 0) n)) where
  -- the digits of the word that are off are no members
  off : (a b : ℕ) → b ≤ 64 → ((k : ℕ) → a ≤ k → k < b → on (get_or set i 0) k ≡ false)
      → (p : ℕ) → i * 64 + a ≤ p → p < i * 64 + b → has set p ≡ false
  off a b h e p g l =
      let at : i * 64 + (p - i * 64) ≡ p = omega arith in
      ap (has set) (sym at) ∙ has-at set i (p - i * 64) (omega arith) ∙ e (p - i * 64) (omega arith) (omega arith)

  turned : (n : ℕ) → n ≤ ones (get_or set i 0) → turn n ≡ state (i * 64 + place (get_or set i 0) fits n)
  unfolding place
  turned zero h = begun ∙ ap state (sym (add-zero (i * 64)))
  turned (suc n) h =
      let w : ℕ = get_or set i 0 in
      let a = after w fits n (omega arith) in
      let some = some_left w fits n a h in
      let p : ℕ = asked w n in
      let low = lowest-inside w fits n a some in
      let one : i * 64 + p + 1 ≡ i * 64 + suc p = omega arith in
      next n
      ∙ ap (λ (x : A). ask x (i * 64 + p))
      (turned n (omega arith)
      ∙ skip (i * 64 + place w fits n) (i * 64 + p) (omega (arith, from_place w fits n a some))
      (off (place w fits n) p (omega (arith, low)) (between w fits n a some)))
      ∙ hit (i * 64 + p) (has-at set i p low ∙ lowest_set w fits n a some)
      ∙ ap state one

  pub turned-word : turn (ones (get_or set i 0)) ≡ state (i * 64 + 64)
  turned-word =
      let w : ℕ = get_or set i 0 in
      let a = after w fits (ones w) (omega arith) in
      turned (ones w) (omega arith)
      ∙ skip (i * 64 + place w fits (ones w)) (i * 64 + 64) (omega (arith, a.inside))
      (off (place w fits (ones w)) 64 (omega arith) (λ k h l. none-past w fits k h))
