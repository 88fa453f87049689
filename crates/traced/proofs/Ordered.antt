-- The starts of a stream stay in order, since none is above the bytes taken before the byte that
-- gave it. Assumes nothing.
use mathlib.Core.Path.{◌≡◌, refl, sym, ap, ap₂, ◌∙◌}
use mathlib.Core.Bool.{Bool, true, false, true≢false, cond, not, ◌&&◌}
use mathlib.Core.List.{List}
use Prim.Native.Nat.{ℕ, zero, suc, ◌≤◌, ◌<◌}
use native.Mathlib.Nat.{zero-add}
use native.Mathlib.Omega.{arith}
use lib.ListN.{get_or}
use borrow.Author.Tests.{lt-ltb, eq-eqb}
use Rattle.sets.specs.Set.{on, has, empty_set}
use Rattle.sets.proofs.Laws.{any-never, has-empty, has-intersection, on-zero}
use Rattle.sets.proofs.Smallest.{smallest-under}
use Rattle.table.specs.Layout.{max_rules, max_positions}
use Rattle.table.specs.Gaps.{before_last, gap_of}
use Rattle.table.specs.Automaton.{Automaton, last}
use Rattle.kinds.specs.declared.Side.{Side}
use Rattle.kinds.specs.Side.{side_of}
use Rattle.steps.specs.Step.{list_from, keepers_of, start_after, stepped_starts, start_at}
use Rattle.stream.specs.declared.Stream.{Stream}
use Rattle.stream.specs.Byte.{after, next_live, next_held}
use Rattle.traced.specs.declared.Traced.{Traced}
use Rattle.traced.specs.Byte.{keeping, pending_long, stream_next, next_starts, next_state, traced}
use Rattle.starts.specs.Order.{start_ok, starts_ok}
use Rattle.traced.specs.Calls.{no_starts}
use Rattle.traced.proofs.Accepting.{in_order}
use Rattle.steps.proofs.Carrying.{list_at}

-- an entry of a list of numbers
pub list-entry : (n : ℕ) (f : ℕ → ℕ) (q : ℕ) → q < n → get_or (list_from 0 n f) q 0 ≡ f q
list-entry n f q lt = list_at 0 n f q lt ∙ ap f (zero-add q)

-- ---- starts in order

-- numbers that are 0 where nothing is there, and else below the bytes taken
pub order-list : (n : ℕ) (there : ℕ → Bool) (taken : ℕ) (f : ℕ → ℕ) → ((q : ℕ) → q < n → there q ≡ true → f q < taken) → ((q : ℕ) → q < n → there q ≡ false → f q ≡ 0)
    → starts_ok n there taken (list_from 0 n f) ≡ true
unfolding starts_ok
order-list n there taken f below none =
    ap not (any-never n (λ q. not (start_ok (there q) taken (get_or (list_from 0 n f) q 0))) (λ q lq. ap not (go q lq (there q) refl)))
  where
    go : (q : ℕ) → q < n → (b : Bool) → there q ≡ b → start_ok (there q) taken (get_or (list_from 0 n f) q 0) ≡ true
    go q lq true e = ap₂ (λ (b : Bool) (s : ℕ). start_ok b taken s) e (list-entry n f q lq) ∙ lt-ltb (f q) taken (below q lq e)
    go q lq false e = ap₂ (λ (b : Bool) (s : ℕ). start_ok b taken s) e (list-entry n f q lq) ∙ eq-eqb (f q) 0 (none q lq e)

-- a number or 0
at_most : (b : Bool) (n m : ℕ) → n ≤ m → cond b n 0 < suc m
at_most true n m h = omega arith
at_most false n m h = omega arith

module _ (w : Automaton) where
  -- no start is above the bytes taken
  after-under : (line : Bool) (before after : Side) (live starts : List ℕ) (taken q : ℕ) → start_after w line before after live starts taken q ≤ taken
  unfolding start_after
  after-under line before after live starts taken q =
      smallest-under (λ p. has live p && w.follow (gap_of line before after) p q) (λ p. get_or starts p 0) taken max_positions

  at_under : (gap : ℕ) (set starts : List ℕ) (d a : ℕ) → start_at w gap set starts d a ≤ d
  unfolding start_at
  at_under gap set starts d a = smallest-under (λ p. has set p && last w gap a p) (λ p. get_or starts p 0) d max_positions

  module _ (z : Traced) (x : ℕ) where
    abbrev s : Stream
    s = z.stream

    -- what a byte gives the positions of a set
    stepped-order : (line : Bool) (next : List ℕ)
        → starts_ok max_positions (has next) (suc s.taken) (stepped_starts w line s.last (side_of x) (keeping w s.live) z.starts.live (keeping w next) s.taken) ≡ true
    unfolding stepped_starts
    stepped-order line next =
        order-list max_positions (has next) (suc s.taken) (λ q. cond (has (keeping w next) q) (start_after w line s.last (side_of x) (keeping w s.live) z.starts.live s.taken q) 0)
        (λ q lq e. at_most (has (keeping w next) q) (start_after w line s.last (side_of x) (keeping w s.live) z.starts.live s.taken q) s.taken
        (after-under line s.last (side_of x) (keeping w s.live) z.starts.live s.taken q))
        (λ q lq e. ap (λ (b : Bool). cond b (start_after w line s.last (side_of x) (keeping w s.live) z.starts.live s.taken q) 0)
        (has-intersection next (keepers_of w) q lq ∙ ap (λ (b : Bool). b && has (keepers_of w) q) e))

    next-order : in_order (next_state w z x) ≡ true
    unfolding next_state next_starts stream_next
    next-order =
        ap₂ (λ (b c : Bool). b && c) (stepped-order false (next_live w s x)) (ap₂ (λ (b c : Bool). b && c) (stepped-order true (next_held w s x))
        (order-list max_rules (on (pending_long w s z.starts.live x)) (suc s.taken)
        (λ a. cond (on (pending_long w s z.starts.live x) a && w.leftmost a) (start_at w (before_last s.last) s.live z.starts.live s.taken a) 0)
        (λ a la e. at_most (on (pending_long w s z.starts.live x) a && w.leftmost a) (start_at w (before_last s.last) s.live z.starts.live s.taken a) s.taken
        (at_under (before_last s.last) s.live z.starts.live s.taken a))
        (λ a la e. ap (λ (b : Bool). cond (b && w.leftmost a) (start_at w (before_last s.last) s.live z.starts.live s.taken a) 0) e)))

  pub order-after : (z : Traced) (block : List ℕ) → in_order z ≡ true → (n : ℕ) → in_order (after (traced w) z block n) ≡ true
  unfolding after
  order-after z block h zero = h
  order-after z block h (suc n) = next-order (after (traced w) z block n) (get_or block n 0)

-- an opened stream has none
pub order-none : (s : Stream) → s.live ≡ empty_set → s.held ≡ empty_set → s.pending ≡ 0 → in_order (record { stream = s; starts = no_starts }) ≡ true
order-none s live held pending =
    ap₂ (λ (b c : Bool). b && c) (zeros max_positions (has s.live) (λ q lq. ap (λ (l : List ℕ). has l q) live ∙ has-empty q lq))
    (ap₂ (λ (b c : Bool). b && c) (zeros max_positions (has s.held) (λ q lq. ap (λ (l : List ℕ). has l q) held ∙ has-empty q lq))
    (zeros max_rules (on s.pending) (λ a la. ap (λ (n : ℕ). on n a) pending ∙ on-zero a)))
  where
    zeros : (n : ℕ) (there : ℕ → Bool) → ((q : ℕ) → q < n → there q ≡ false) → starts_ok n there s.taken (list_from 0 n (λ q. 0)) ≡ true
    zeros n there none = order-list n there s.taken (λ q. 0) (λ q lq e. absurd (true≢false (sym e ∙ none q lq))) (λ q lq e. refl)
