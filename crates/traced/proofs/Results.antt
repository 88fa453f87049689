-- What the calls on a stream with starts give: an accepted scan and a closing, a refused one; a
-- valid state stays valid, and a scan of a block with a byte takes one.
use mathlib.Core.Path.{◌≡◌, refl, sym, subst, ap, ◌∙◌}
use mathlib.Core.Bool.{true, false}
use mathlib.Core.List.{List}
use Prim.Native.Nat.{ℕ, zero, suc, ◌+◌, ◌*◌, ◌≤◌, ◌<◌}
use native.Mathlib.Omega.{arith}
use native.Mathlib.Decide.{ℕ_discrete}
use lib.ListN.{length, get_or}
use borrow.Author.Tests.{eq-eqb, ne_eqb}
use Rattle.std.specs.Prelude.{Result, Ok, Err}
use Rattle.std.specs.Result.{IsOk}
use Rattle.refusals.specs.declared.Refusal.{Refusal}
use Rattle.refusals.proofs.Laws.{number-above}
use Rattle.sets.specs.Set.{has, size_of}
use Rattle.sets.proofs.Bits.{count-le}
use Rattle.table.specs.Layout.{max_positions, rules_of, positions_of}
use Rattle.table.specs.Table.{is_table}
use Rattle.table.specs.Automaton.{Automaton, automaton}
use Rattle.stream.specs.declared.Stream.{Stream}
use Rattle.stream.specs.Byte.{Machine, after, reports_by, cost_by}
use Rattle.stream.specs.Valid.{stream_limit, sound, same_counts, live_inside, marks_single, under_limit, held_inside, pending_inside, pending_late, begun}
use Rattle.stream.specs.Calls.{shut, fresh}
use Rattle.stream.proofs.Accepting.{Fitting, fitted}
use Rattle.stream.proofs.Machines.{fits_le}
use Rattle.stream.proofs.TwoRuns.{two-few}
use Rattle.stream.proofs.Blocks.{first_fits, taken-after}
use Rattle.stream.proofs.Results.{opened-stream, opened-sound, fitting-next}
use Rattle.traced.specs.declared.Traced.{Traced}
use Rattle.traced.specs.Byte.{Report, given, counted, late_long, own_long, late_start, own_start, stream_next, next_state, byte_reports, traced, close_reports}
use Rattle.traced.specs.Valid.{valid}
use Rattle.traced.specs.declared.Progress.{Progress}
use Rattle.traced.specs.declared.Ending.{Ending}
use Rattle.traced.specs.Calls.{Scanned, Closed, Lists, Call, opened, space, written, close_number, call_number, taken_by, scanned, scanned_of, scanned_lists, closed, closed_of}
use Rattle.traced.proofs.Accepting.{in_order, both, Accepted, accepted, close-number}
use Rattle.traced.proofs.Same.{stream_after}
use Rattle.traced.proofs.Ordered.{order-after, order-none}

-- the state after a closing
abbrev pub ended : Traced → Traced
ended z = record { stream = shut z.stream; starts = z.starts }

-- ---- one call

module _ (t : List ℕ) (z : Traced) (c : Call) where
  abbrev m : Machine Traced Report
  m = traced (automaton t)

  pub accepted-scan : call_number t z c ≡ 0 → scanned t z c ≡ record {
    number = 0;
    taken = taken_by t z c;
    reports = length (reports_by m z c.block (taken_by t z c));
    used = cost_by m z c.block (taken_by t z c);
    traced = after m z c.block (taken_by t z c);
  }
  unfolding scanned
  accepted-scan ok = rw (eq-eqb (call_number t z c) 0 ok)

  pub refused-scan : ¬ (call_number t z c ≡ 0) → scanned t z c ≡ record { number = call_number t z c; taken = 0; reports = 0; used = 0; traced = z }
  unfolding scanned
  refused-scan bad = rw (ne_eqb (call_number t z c) 0 bad)

  pub scan-number : (scanned t z c).number ≡ call_number t z c
  scan-number = go (ℕ_discrete (call_number t z c) 0)
    where
      go : Dec (call_number t z c ≡ 0) → (scanned t z c).number ≡ call_number t z c
      go (yes ok) = ap (λ (a : Scanned). a.number) (accepted-scan ok) ∙ sym ok
      go (no bad) = ap (λ (a : Scanned). a.number) (refused-scan bad)

  pub taken_is : call_number t z c ≡ 0 → (scanned t z c).taken ≡ taken_by t z c
  taken_is ok = ap (λ (a : Scanned). a.taken) (accepted-scan ok)

  pub taken-le : taken_by t z c ≤ length c.block
  unfolding taken_by
  taken-le = fits_le m z c.block c.allowance (space c.slots) (length c.block)

  pub scanned-lists : call_number t z c ≡ 0 → scanned_lists t z c ≡ written z.stream.taken (reports_by m z c.block (taken_by t z c)) c.slots
  unfolding scanned_lists
  scanned-lists ok = rw (eq-eqb (call_number t z c) 0 ok)

module _ (t : List ℕ) (z : Traced) (l : Lists) where
  abbrev number : ℕ
  number = close_number t z (space l)

  pub accepted-close : close_number t z (space l) ≡ 0 → closed t z l ≡ record { number = 0; reports = length (close_reports (automaton t) z); traced = ended z }
  unfolding closed
  accepted-close ok = rw (eq-eqb number 0 ok)

  pub refused-close : ¬ (close_number t z (space l) ≡ 0) → closed t z l ≡ record { number = close_number t z (space l); reports = 0; traced = z }
  unfolding closed
  refused-close bad = rw (ne_eqb number 0 bad)

  pub close-number-is : (closed t z l).number ≡ close_number t z (space l)
  close-number-is = go (ℕ_discrete number 0)
    where
      go : Dec (number ≡ 0) → (closed t z l).number ≡ number
      go (yes ok) = ap (λ (a : Closed). a.number) (accepted-close ok) ∙ sym ok
      go (no bad) = ap (λ (a : Closed). a.number) (refused-close bad)

-- ---- valid states

-- a byte has at most two reports of a rule
byte-few : (w : Automaton) (z : Traced) (x : ℕ) → length (byte_reports w z x) ≤ 2 * w.rules
unfolding byte_reports
byte-few w z x =
    let s : Stream = z.stream in
    let live : List ℕ = z.starts.live in
    two-few w (late_long w s live x) (own_long w s live x) s.reported (given w s.taken (late_start w z x)) (given w (suc s.taken) (own_start w z x))

-- a state that fits still fits after some bytes
fitting-traced : (w : Automaton) (z : Traced) (block : List ℕ) → Fitting w z.stream → (n : ℕ) → z.stream.taken + n ≤ stream_limit
    → Fitting w (after (traced w) z block n).stream
unfolding after next_state stream_next
fitting-traced w z block fits zero l = fits
fitting-traced w z block fits (suc n) l =
    let y : Traced = after (traced w) z block n in
    let s : Stream = y.stream in
    let live : List ℕ = y.starts.live in
    let x : ℕ = get_or block n 0 in
    fitting-next w (late_long w s live x) (own_long w s live x) s (counted w s live) x refl (fitting-traced w z block fits n (omega arith))
    (omega (arith, ap (λ (u : Stream). u.taken) (stream_after w z block n), taken-after w z.stream block n))

-- the state after some bytes of a valid one
module _ (w : Automaton) (z : Traced) (block : List ℕ) (fits : Fitting w z.stream) (ordered : in_order z ≡ true) (n : ℕ) (short : z.stream.taken + n ≤ stream_limit) where
  fits_after : Fitting w (after (traced w) z block n).stream
  fits_after = fitting-traced w z block fits n short

  pub valid-after : valid w (after (traced w) z block n) ≡ true
  valid-after = both w (after (traced w) z block n) (fitted w (after (traced w) z block n).stream fits_after) (order-after w z block ordered n)

-- the closed mark is no part of the test
valid-ended : (w : Automaton) (z : Traced) → valid w (ended z) ≡ valid w z
unfolding valid sound same_counts live_inside marks_single under_limit held_inside pending_inside pending_late begun
valid-ended w z = refl

module _ (t : List ℕ) where
  abbrev w : Automaton
  w = automaton t

  pub scan-holds : (z : Traced) (c : Call) → (scanned t z c).number ≡ 0 → Accepted t z (length c.block) (space c.slots)
  scan-holds z c ok = accepted t z (length c.block) (space c.slots) (sym (scan-number t z c) ∙ ok)

  pub close-holds : (z : Traced) (l : Lists) → (closed t z l).number ≡ 0 → Accepted t z 0 (space l)
  close-holds z l ok = accepted t z 0 (space l) (close-number t z (space l) ∙ sym (close-number-is t z l) ∙ ok)

  pub scan_state : (z : Traced) (c : Call) → (scanned t z c).number ≡ 0 → (scanned t z c).traced ≡ after (traced w) z c.block (scanned t z c).taken
  scan_state z c ok =
      let e : call_number t z c ≡ 0 = sym (scan-number t z c) ∙ ok in
      ap (λ (a : Scanned). a.traced) (accepted-scan t z c e) ∙ ap (after (traced w) z c.block) (sym (taken_is t z c e))

  pub taken-within : (z : Traced) (c : Call) → (scanned t z c).number ≡ 0 → (scanned t z c).taken ≤ length c.block
  taken-within z c ok = omega (arith, taken_is t z c (sym (scan-number t z c) ∙ ok), taken-le t z c)

  pub scan-valid : (z : Traced) (c : Call) → (scanned t z c).number ≡ 0 → valid w (scanned t z c).traced ≡ true
  scan-valid z c ok =
      let h = scan-holds z c ok in
      ap (valid w) (scan_state z c ok)
      ∙ valid-after w z c.block h.state h.ordered (scanned t z c).taken (omega (arith, h.short, taken-within z c ok))

  pub close_state : (z : Traced) (l : Lists) → (closed t z l).number ≡ 0 → (closed t z l).traced ≡ ended z
  close_state z l ok = ap (λ (a : Closed). a.traced) (accepted-close t z l (sym (close-number-is t z l) ∙ ok))

  pub close-valid : (z : Traced) (l : Lists) → (closed t z l).number ≡ 0 → valid w (closed t z l).traced ≡ true
  close-valid z l ok =
      let h = close-holds z l ok in
      ap (valid w) (close_state z l ok) ∙ valid-ended w z ∙ both w z (fitted w z.stream h.state) h.ordered

  pub scan_limit : (z : Traced) (c : Call) → (scanned t z c).number ≡ 0 → (scanned t z c).traced.stream.taken ≤ stream_limit
  scan_limit z c ok =
      let h = scan-holds z c ok in
      let n : ℕ = (scanned t z c).taken in
      subst (λ (y : Traced). y.stream.taken ≤ stream_limit) (sym (scan_state z c ok))
      (fits_after w z c.block h.state h.ordered n (omega (arith, h.short, taken-within z c ok))).limit

  pub progress : (z : Traced) (c : Call) → (scanned t z c).number ≡ 0 → 257 ≤ c.allowance → 0 < length c.block → 0 < (scanned t z c).taken
  unfolding taken_by automaton size_of
  progress z c ok paid some =
      let x : ℕ = get_or c.block 0 0 in
      omega (
        arith,
        taken_is t z c (sym (scan-number t z c) ∙ ok),
        first_fits (traced (automaton t)) z c.block (2 * rules_of t) (byte-few (automaton t) z x) (omega (arith, count-le max_positions (has z.stream.live)))
            c.allowance (space c.slots) (length c.block) some (omega (arith, (scan-holds z c ok).space)) paid,
      )

  module _ (table : is_table t ≡ true) where
    pub opened-is : (opened t).traced.stream ≡ fresh (rules_of t) (positions_of t) false
    unfolding opened
    opened-is = opened-stream t table

    pub opened-fits : valid w (opened t).traced ≡ true
    unfolding opened
    opened-fits =
        let e = opened-is in
        both w (opened t).traced (opened-sound t table)
        (order-none (opened t).traced.stream (ap (λ (s : Stream). s.live) e) (ap (λ (s : Stream). s.held) e) (ap (λ (s : Stream). s.pending) e))

-- ---- what a function gives

-- a call of number 0 is accepted
pub scan-ok : (z : Traced) (r : Result Progress Refusal) → (scanned_of z r).number ≡ 0 → IsOk r
scan-ok z (Ok p) e = refl
scan-ok z (Err r) e = absurd (omega (arith, number-above r, e))

pub close-ok : (z : Traced) (r : Result Ending Refusal) → (closed_of z r).number ≡ 0 → IsOk r
close-ok z (Ok p) e = refl
close-ok z (Err r) e = absurd (omega (arith, number-above r, e))
