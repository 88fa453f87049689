-- A number put in at a place of those that the rules have, one each from `at` on: the later ones
-- are moved up by one, and no other word changes.
use mathlib.Core.Path.{◌≡◌, sym, ap, ◌∙◌}
use mathlib.Core.List.{List, [], ◌∷◌}
use Prim.Native.Nat.{ℕ, ◌+◌, ◌-◌, ◌≤◌, ◌<◌}
use native.Mathlib.Decide.{dec_lt}
use native.Mathlib.Omega.{arith}
use lib.ListN.{length, get_or}
use borrow.Author.Tests.{lt-ltb, le-ltb, le-leb, lt-leb, eq-eqb, ne_eqb}
use Rattle.table.specs.Layout.{max_rules}
use Rattle.table.specs.Invariants.{moved_up}
use Rattle.table.proofs.Over.{length_over, over-in, over_below, over-above, over-is}
use Rattle.rules.specs.Words.{numbers_with, numbers_put}
use Rattle.rules.specs.Invariants.{number_put}
use Rattle.rules.proofs.GapSets.{Out, side}

module _ (at rules k x : ℕ) (t : List ℕ) (k-le : k ≤ rules) (few : rules < max_rules) (room : at + max_rules ≤ length t) where
  abbrev moved : List ℕ
  moved = moved_up (at + k) (rules - k) t

  abbrev up : ℕ → ℕ
  up w = get_or t (w - 1) 0

  length_moved : length moved ≡ length t
  length_moved = length_over (at + k + 1) (at + k + 1 + (rules - k)) up t

  abbrev put : List ℕ
  put = number_put at rules k x t

  abbrev new : ℕ → ℕ
  new w = get_or (x ∷ []) (w - (at + k)) 0

  pub length-number : length put ≡ length t
  unfolding number_put
  length-number = length_over (at + k) (at + k + 1) new moved ∙ length_moved

  put_low : (w : ℕ) → w < at + k → get_or put w 0 ≡ get_or t w 0
  unfolding number_put
  put_low w h = over_below (at + k) (at + k + 1) new moved w h ∙ over_below (at + k + 1) (at + k + 1 + (rules - k)) up t w (omega arith)

  put-here : get_or put (at + k) 0 ≡ x
  unfolding number_put
  put-here =
      let e : at + k - (at + k) ≡ 0 = omega arith in
      over-in (at + k) (at + k + 1) new moved (at + k) (omega arith) (omega arith) (omega (arith, length_moved)) ∙ ap (λ (j : ℕ). get_or (x ∷ []) j 0) e

  put_up : (w : ℕ) → at + k < w → w ≤ at + rules → get_or put w 0 ≡ get_or t (w - 1) 0
  unfolding number_put
  put_up w h l =
      over-above (at + k) (at + k + 1) new moved w (omega arith)
      ∙ over-in (at + k + 1) (at + k + 1 + (rules - k)) up t w (omega arith) (omega arith) (omega arith)

  put-high : (w : ℕ) → at + rules < w → get_or put w 0 ≡ get_or t w 0
  unfolding number_put
  put-high w h =
      over-above (at + k) (at + k + 1) new moved w (omega arith)
      ∙ over-above (at + k + 1) (at + k + 1 + (rules - k)) up t w (omega arith)

  -- outside the numbers nothing changes
  pub number-out : (w : ℕ) → Out at (at + max_rules) w → get_or put w 0 ≡ get_or t w 0
  number-out w o = side at (at + max_rules) w (λ h. put_low w (omega arith)) (λ a b. absurd (o a b)) (λ h. put-high w (omega arith))

  pub number_in : (a : ℕ) → a < max_rules → get_or put (at + a) 0 ≡ numbers_with rules k x (λ b. get_or t (at + b) 0) a
  number_in a h = go (dec_lt a k) (dec_lt k a) (dec_lt rules a)
    where
      go : Dec (a < k) → Dec (k < a) → Dec (rules < a) → get_or put (at + a) 0 ≡ numbers_with rules k x (λ b. get_or t (at + b) 0) a
      go (yes p) q r = rw (lt-ltb a k p) (put_low (at + a) (omega arith))
      go (no p) (no q) r =
          let e : a ≡ k = omega arith in
          rw (le-ltb a k (omega arith), eq-eqb a k e) (ap (λ (j : ℕ). get_or put (at + j) 0) e ∙ put-here)
      go (no p) (yes q) (no r) =
          let e : at + a - 1 ≡ at + (a - 1) = omega arith in
          rw (le-ltb a k (omega arith), ne_eqb a k (λ z. omega arith), le-leb a rules (omega arith))
          (put_up (at + a) (omega arith) (omega arith) ∙ ap (λ (j : ℕ). get_or t j 0) e)
      go (no p) (yes q) (yes r) =
          rw (le-ltb a k (omega arith), ne_eqb a k (λ z. omega arith), lt-leb a rules r) (put-high (at + a) (omega arith))

  pub number-all : put ≡ numbers_put at rules k x t
  unfolding numbers_put
  number-all =
      over-is at (at + max_rules) (λ w. numbers_with rules k x (λ b. get_or t (at + b) 0) (w - at)) t put length-number
      (λ w h l m. let e : at + (w - at) ≡ w = omega arith in ap (λ (j : ℕ). get_or put j 0) (sym e) ∙ number_in (w - at) (omega arith))
      (λ w h. number-out w (λ a b. omega arith))
      (λ w h. number-out w (λ a b. omega arith))
