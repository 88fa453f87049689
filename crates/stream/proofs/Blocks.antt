-- Some bytes of a block, for a stream: what of its state is counted or stays, and at most two
-- reports of a rule and 257 units a byte.
use mathlib.Core.Path.{◌≡◌, refl, sym, ap, ◌∙◌}
use mathlib.Core.Bool.{Bool}
use mathlib.Core.List.{List}
use Prim.Native.Nat.{ℕ, zero, suc, ◌+◌, ◌*◌, ◌<◌, ◌≤◌, zero-le}
use native.Mathlib.Nat.{add-zero, add-suc}
use native.Mathlib.Numerals.{add-one}
use native.Mathlib.Omega.{arith}
use lib.ListN.{length, get_or, length-append}
use Rattle.sets.specs.Set.{has, size_of}
use Rattle.sets.proofs.Bits.{count-le}
use Rattle.table.specs.Layout.{max_positions}
use Rattle.table.specs.Automaton.{Automaton}
use Rattle.stream.specs.declared.Stream.{Stream}
use Rattle.stream.specs.Byte.{Machine, after, reports_by, cost_by, fits_by, given, next_held, state_by, late_test, own_test, byte_reports, byte_state, plain, state_after, reports_of, cost_of, fits}
use Rattle.stream.specs.Invariants.{side_at}
use Rattle.stream.proofs.TwoRuns.{two-few}
use Rattle.stream.proofs.Machines.{reports-more, cost-more, cost-none, fits-most}

-- ---- a stream but for its marks and held pairs

abbrev pub blank : Stream → Stream
blank s = record {
  live = s.live;
  held = s.held;
  reported = 0;
  pending = 0;
  last = s.last;
  taken = s.taken;
  rules = s.rules;
  positions = s.positions;
  closed = s.closed;
}

-- a byte makes the same of it, whatever the tests of its runs
pub blank-next : (w : Automaton) (late own late' own' : ℕ → Bool) (pending pending' : ℕ) (s u : Stream) (x : ℕ) → blank s ≡ blank u
    → blank (state_by w late own pending s x) ≡ blank (state_by w late' own' pending' u x)
unfolding next_held
blank-next w late own late' own' pending pending' s u x e = ap (λ (z : Stream). blank (state_by w late own pending z x)) e

-- ---- some bytes

byte-few : (w : Automaton) (s : Stream) (x : ℕ) → length (byte_reports w s x) ≤ 2 * w.rules
unfolding byte_reports
byte-few w s x = two-few w (late_test w s x) (own_test w s x) s.reported (given w s.taken) (given w (suc s.taken))

-- where a byte's reports fit and any byte can be paid for, one byte is taken
pub first_fits : {S R : Type 0} (m : Machine S R) (s : S) (block : List ℕ) (most : ℕ) → length (m.reports s (get_or block 0 0)) ≤ most → m.cost s ≤ 257
    → (allowance room k : ℕ) → 0 < k → most ≤ room → 257 ≤ allowance → 0 < fits_by m s allowance block room k
unfolding after reports_by cost_by
first_fits m s block most few cheap allowance room k h l c = omega (arith, fits-most m s block allowance room 1 k (omega arith) (omega arith) (omega arith))

module _ (w : Automaton) (s : Stream) (block : List ℕ) where
  -- ---- what does not change, and what is counted

  pub taken-after : (k : ℕ) → (state_after w s block k).taken ≡ s.taken + k
  unfolding after byte_state
  taken-after zero = sym (add-zero s.taken)
  taken-after (suc k) = ap suc (taken-after k) ∙ sym (add-suc s.taken k)

  pub rules-after : (k : ℕ) → (state_after w s block k).rules ≡ s.rules
  unfolding after byte_state
  rules-after zero = refl
  rules-after (suc k) = rules-after k

  pub positions-after : (k : ℕ) → (state_after w s block k).positions ≡ s.positions
  unfolding after byte_state
  positions-after zero = refl
  positions-after (suc k) = positions-after k

  pub closed_after : (k : ℕ) → (state_after w s block k).closed ≡ s.closed
  unfolding after byte_state
  closed_after zero = refl
  closed_after (suc k) = closed_after k

  -- the side before the next byte
  pub last-after : (k : ℕ) → (state_after w s block k).last ≡ side_at s.last block k
  unfolding after byte_state side_at
  last-after zero = refl
  last-after (suc k) = refl

  -- a byte has at most two reports of a rule
  reports-few : (k : ℕ) → length (reports_of w s block (k + 1)) ≤ length (reports_of w s block k) + 2 * w.rules
  reports-few k =
      omega (
        arith,
        ap length (reports-more (plain w) s block k),
        length-append (reports_of w s block k) (byte_reports w (state_after w s block k) (get_or block k 0)),
        byte-few w (state_after w s block k) (get_or block k 0),
      )

  -- "never above 257 for each byte taken"
  byte-cost : (k : ℕ) → cost_of w s block (k + 1) ≤ cost_of w s block k + 257
  unfolding size_of
  byte-cost k = omega (arith, cost-more (plain w) s block k, count-le max_positions (has (state_after w s block k).live))

  -- and a unit at least
  pub cost-some : (k : ℕ) → k ≤ cost_of w s block k
  cost-some zero = zero-le
  cost-some (suc k) = omega (arith, ap (cost_of w s block) (add-one k), cost-more (plain w) s block k, cost-some k)

  pub cost-few : (k : ℕ) → cost_of w s block k ≤ 257 * k
  cost-few zero = omega (arith, cost-none (plain w) s block)
  cost-few (suc k) = omega (arith, ap (cost_of w s block) (add-one k), byte-cost k, cost-few k)

  pub one-fits : (allowance room k : ℕ) → 0 < k → 2 * w.rules ≤ room → 257 ≤ allowance → 0 < fits w s allowance block room k
  unfolding size_of
  one-fits = first_fits (plain w) s block (2 * w.rules) (byte-few w s (get_or block 0 0)) (omega (arith, count-le max_positions (has s.live)))
