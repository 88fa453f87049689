-- A stream with starts goes as a stream does, but for its marks and held pairs: the same positions
-- are live and held, at the same cost.
use mathlib.Core.Path.{◌≡◌, refl, ap, ap₂, ◌∙◌}
use mathlib.Core.Bool.{Bool, true, false, cond}
use mathlib.Core.List.{List, [], ◌∷◌, ◌++◌, map}
use Prim.Native.Nat.{ℕ, zero, suc, ◌+◌}
use lib.ListN.{get_or}
use Rattle.table.specs.Automaton.{Automaton}
use Rattle.stream.specs.declared.Stream.{Stream}
use Rattle.stream.specs.Byte.{after, cost_by, due, run_reports, next_pending, byte_state, late_test, own_test, busy_of, state_after, cost_of}
use Rattle.stream.proofs.Blocks.{blank, blank-next}
use Rattle.traced.specs.declared.Traced.{Traced}
use Rattle.traced.specs.Byte.{late_long, own_long, pending_long, stream_next, next_state, traced}

pub map-join : {A B : Type 0} (f : A → B) (a b : List A) → map f (a ++ b) ≡ map f a ++ map f b
map-join f [] b = refl
map-join {B = B} f (x ∷ a) b = ap (λ (l : List B). f x ∷ l) (map-join f a b)

pub run-map : {A B : Type 0} (f : A → B) (test : ℕ → Bool) (marks : ℕ) (give : ℕ → A) (n : ℕ)
    → map f (run_reports test marks give n) ≡ run_reports test marks (λ a. f (give a)) n
unfolding run_reports
run-map f test marks give zero = refl
run-map {B = B} f test marks give (suc n) =
    map-join f (run_reports test marks give n) (cond (due test marks n) (give n ∷ []) [])
    ∙ ap₂ (λ (x y : List B). x ++ y) (run-map f test marks give n) (one (due test marks n))
  where
    one : (b : Bool) → map f (cond b (give n ∷ []) []) ≡ cond b (f (give n) ∷ []) []
    one true = refl
    one false = refl

module _ (w : Automaton) (z : Traced) (block : List ℕ) where
  -- some bytes: the stream after them, and what they cost
  pub stream_after : (k : ℕ) → blank (after (traced w) z block k).stream ≡ blank (state_after w z.stream block k)
  unfolding after next_state stream_next byte_state
  stream_after zero = refl
  stream_after (suc k) =
      let y : Traced = after (traced w) z block k in
      let s : Stream = y.stream in
      let live : List ℕ = y.starts.live in
      let u : Stream = state_after w z.stream block k in
      let x : ℕ = get_or block k 0 in
      blank-next w (late_long w s live x) (own_long w s live x) (late_test w u x) (own_test w u x) (pending_long w s live x) (next_pending w u x) s u x (stream_after k)

  pub cost-after : (k : ℕ) → cost_by (traced w) z block k ≡ cost_of w z.stream block k
  unfolding cost_by
  cost-after zero = refl
  cost-after (suc k) = ap₂ (λ (a b : ℕ). a + b) (cost-after k) (ap (λ (s : Stream). suc (busy_of s)) (stream_after k))
