-- What callers may count on. An accepted scan that may use 257 units takes some byte, since there
-- is space for two reports of each rule; the state that comes back is valid again, since a live set
-- is kept below the count, a mark is set for single-match rules alone, and the bytes stay within
-- the limit.
use mathlib.Core.Path.{◌≡◌, refl, sym, ap, ap₂, ◌∙◌}
use mathlib.Core.Bool.{Bool, true, false, cond, not, ◌||◌, ◌&&◌, or-true, and-false}
use mathlib.Core.List.{List}
use Prim.Native.Nat.{ℕ, zero, suc, ◌+◌, ◌*◌, ◌<◌, ◌≤◌, zero-le}
use native.Mathlib.Omega.{arith}
use lib.Dec.{eqb, leb, ltb}
use lib.ListN.{length, get_or}
use borrow.Author.Tests.{lt-ltb, eq-eqb, ne_eqb, eqb-true, not-true, le-leb, ltb-true}
use Rattle.std.specs.Prelude.{Result, Ok, Err}
use Rattle.std.specs.Result.{IsOk}
use Rattle.refusals.specs.declared.Refusal.{Refusal}
use Rattle.refusals.proofs.Laws.{number-above}
use Rattle.sets.specs.Set.{on, has, set_of, word_of, any, empty_set, is_empty, size_of}
use Rattle.sets.proofs.Bits.{on-zero, on-word_of}
use Rattle.sets.proofs.Laws.{has-set_of, has-empty, any_none, any-never, count-never}
use Rattle.kinds.specs.declared.Side.{Side}
use Rattle.kinds.specs.declared.Side.TheVariants.{Newline}
use Rattle.kinds.specs.Side.{side_of}
use Rattle.table.specs.Layout.{max_positions, rules_of, positions_of}
use Rattle.table.specs.Table.{is_table}
use Rattle.table.specs.Gaps.{between, before_last, gap_of, first_gap}
use Rattle.table.specs.Automaton.{Automaton, automaton, single, starts}
use Rattle.steps.specs.Step.{stepped, ends_newly, rules_where}
use Rattle.table.proofs.Members.{not-below}
use Rattle.stream.specs.declared.Stream.{Stream}
use Rattle.stream.specs.declared.Progress.{Progress}
use Rattle.stream.specs.declared.Ending.{Ending}
use Rattle.stream.specs.Byte.{state_by, next_held, next_pending, run_marks, two_marks, late_test, own_test, byte_state, plain, after, state_after, reports_of, cost_of, close_reports, busy_of}
use Rattle.stream.specs.Valid.{stream_limit, same_counts, live_inside, marks_single, under_limit, held_inside, pending_inside, pending_late, begun, sound, needs_starts, valid}
use Rattle.stream.specs.Calls.{Scanned, Closed, Lists, Call, fresh, opened, space, close_number, call_number, taken_by, scanned, scanned_of, shut, closed, closed_of}
use Rattle.stream.proofs.Machines.{fits_le, fits-within}
use Rattle.stream.proofs.Blocks.{cost-some, cost-few, one-fits, taken-after}
use Rattle.stream.proofs.Accepting.{Fitting, fitted, valid-is, Accepted, accepted, close-number}

-- ---- an opened stream

-- nothing is live
pub busy-fresh : (rules positions : ℕ) (shut : Bool) → busy_of (fresh rules positions shut) ≡ 0
unfolding size_of
busy-fresh rules positions shut = count-never max_positions (has empty_set) has-empty

pub opened-stream : (t : List ℕ) → is_table t ≡ true → (opened t).stream ≡ fresh (rules_of t) (positions_of t) false
unfolding opened
opened-stream t e = rw e

none-empty : is_empty empty_set ≡ true
unfolding is_empty
none-empty = ap not (any-never max_positions (has empty_set) has-empty)

-- the state is sound for the words, and valid where no rule needs a start
pub opened-sound : (t : List ℕ) → is_table t ≡ true → sound (automaton t) (opened t).stream ≡ true
unfolding automaton live_inside marks_single held_inside pending_inside pending_late begun
opened-sound t e =
    ap (sound (automaton t)) (opened-stream t e)
    ∙ fitted (automaton t) (fresh (rules_of t) (positions_of t) false) (record {
      rules_same = refl;
      positions_same = refl;
      live = ap not (any-never max_positions (λ q. has empty_set q && leb (positions_of t) q) (λ q h. ap (λ (b : Bool). b && leb (positions_of t) q) (has-empty q h)));
      marks =
          ap not (any-never 64 (λ a. on 0 a && not (ltb a (rules_of t) && single (automaton t) a))
          (λ a h. ap (λ (b : Bool). b && not (ltb a (rules_of t) && single (automaton t) a)) (on-zero a)));
      limit = zero-le;
      held = ap not (any-never max_positions (λ q. has empty_set q && leb (positions_of t) q) (λ q h. ap (λ (b : Bool). b && leb (positions_of t) q) (has-empty q h)));
      pending = ap not (any-never 64 (λ a. on 0 a && not (ltb a (rules_of t))) (λ a h. ap (λ (b : Bool). b && not (ltb a (rules_of t))) (on-zero a)));
      late = refl;
      after_first = ap (λ (b : Bool). (b && b) || ltb 0 0) none-empty;
    })

pub opened-valid : (t : List ℕ) → is_table t ≡ true → needs_starts (automaton t) ≡ false → valid (automaton t) (opened t).stream ≡ true
opened-valid t e = valid-is (automaton t) (opened t).stream (opened-sound t e)

-- ---- a valid state stays valid

-- a step stays below the count
module _ (w : Automaton) (line : Bool) (before after : Side) (live : List ℕ) (taken x : ℕ) where
  rest : ℕ → Bool
  rest q = w.takes x q && (starts w (first_gap line taken before after) x q || any max_positions (λ p. has live p && w.follow (gap_of line before after) p q))

  takers : ℕ → Bool
  takers q = ltb q w.positions && rest q

  apart : (a b : Bool) → ((a && b) && not a) ≡ false
  apart true true = refl
  apart true false = refl
  apart false b = refl

  inside-step : not (any max_positions (λ q. has (stepped w line before after w.positions live taken x) q && leb w.positions q)) ≡ true
  unfolding stepped rest takers
  inside-step =
      ap not (any-never max_positions (λ q. has (set_of takers) q && leb w.positions q)
      (λ q h. ap₂ (λ (a b : Bool). a && b) (has-set_of takers q h) (sym (not-below q w.positions)) ∙ apart (ltb q w.positions) (rest q)))

-- The state after a byte, by any tests of its runs. The pairs that it leaves held are found in a
-- stream with as many bytes.
module _ (w : Automaton) (late own : ℕ → Bool) (s u : Stream) (x : ℕ) where
  abbrev pub next_by : Stream
  next_by = state_by w late own (next_pending w u x) s x

  pub inside-next : live_inside w next_by ≡ true
  unfolding live_inside
  inside-next = inside-step w false s.last (side_of x) s.live s.taken x

  -- what is held is such a step, or nothing
  pub held_next : held_inside w next_by ≡ true
  unfolding held_inside next_held
  held_next = go (eqb x 10)
    where
      go : (b : Bool) → not (any max_positions (λ q. has (cond b (stepped w true s.last (side_of x) w.positions s.live s.taken x) empty_set) q && leb w.positions q)) ≡ true
      go true = inside-step w true s.last (side_of x) s.live s.taken x
      go false = ap not (any-never max_positions (λ q. has empty_set q && leb w.positions q) (λ q h. ap (λ (b : Bool). b && leb w.positions q) (has-empty q h)))

  -- a pair is held for rules of the table alone, and where a byte stands before its end offset
  pub pending_next : pending_inside w next_by ≡ true
  unfolding pending_inside next_pending
  pending_next = go (eqb x 10 && ltb 0 u.taken)
    where
      pair : ℕ → Bool
      pair = ends_newly w (before_last u.last) u.live (between u.last Newline) u.live

      test : ℕ → Bool
      test a = ltb a w.rules && pair a

      apart : (a b : Bool) → ((a && b) && not a) ≡ false
      apart true true = refl
      apart true false = refl
      apart false b = refl

      go : (b : Bool) → not (any 64 (λ a. on (cond b (word_of 64 test) 0) a && not (ltb a w.rules))) ≡ true
      go true =
          ap not (any-never 64 (λ a. on (word_of 64 test) a && not (ltb a w.rules))
          (λ a h. ap (λ (b : Bool). b && not (ltb a w.rules)) (on-word_of 64 test a h) ∙ apart (ltb a w.rules) (pair a)))
      go false = ap not (any-never 64 (λ a. on 0 a && not (ltb a w.rules)) (λ a h. ap (λ (b : Bool). b && not (ltb a w.rules)) (on-zero a)))

  late-next : u.taken ≡ s.taken → pending_late next_by ≡ true
  unfolding pending_late next_pending
  late-next same = go (ltb 0 u.taken) refl
    where
      pairs : ℕ
      pairs = rules_where w (ends_newly w (before_last u.last) u.live (between u.last Newline) u.live)

      go : (b : Bool) → ltb 0 u.taken ≡ b → (eqb (cond (eqb x 10 && b) pairs 0) 0 || leb 2 (suc s.taken)) ≡ true
      go true e =
          ap (λ (b : Bool). eqb (cond (eqb x 10 && true) pairs 0) 0 || b) (le-leb 2 (suc s.taken) (omega (arith, ltb-true 0 u.taken e, same)))
          ∙ or-true (eqb (cond (eqb x 10 && true) pairs 0) 0)
      go false e = ap (λ (b : Bool). eqb (cond b pairs 0) 0 || leb 2 (suc s.taken)) (and-false (eqb x 10))

  begun-next : begun next_by ≡ true
  unfolding begun
  begun-next =
      ap (λ (b : Bool). (is_empty next_by.live && is_empty next_by.held) || b) (lt-ltb 0 (suc s.taken) (omega arith))
      ∙ or-true (is_empty next_by.live && is_empty next_by.held)

-- a mark is set for single-match rules alone, in each run
only-single : Automaton → ℕ → Bool
only-single w marks = not (any 64 (λ a. on marks a && not (ltb a w.rules && single w a)))

single-run : (w : Automaton) (test : ℕ → Bool) (marks : ℕ) → only-single w marks ≡ true → only-single w (run_marks w test marks) ≡ true
unfolding only-single run_marks
single-run w test marks e =
    ap not (any-never 64 (λ a. on (word_of 64 marked) a && not (ltb a w.rules && single w a))
    (λ a h. ap (λ (b : Bool). b && not (ltb a w.rules && single w a)) (on-word_of 64 marked a h)
    ∙ apart (on marks a) (ltb a w.rules) (single w a) (test a)
    (any_none 64 (λ a. on marks a && not (ltb a w.rules && single w a)) (not-true (any 64 (λ a. on marks a && not (ltb a w.rules && single w a))) e) a h)))
  where
    marked : ℕ → Bool
    marked a = on marks a || (ltb a w.rules && (single w a && test a))

    apart : (m a b c : Bool) → (m && not (a && b)) ≡ false → ((m || (a && (b && c))) && not (a && b)) ≡ false
    apart true a b c f = f
    apart false true true true f = refl
    apart false true true false f = refl
    apart false true false c f = refl
    apart false false b c f = refl

-- a state that fits still fits after a byte
pub fitting-next : (w : Automaton) (late own : ℕ → Bool) (s u : Stream) (x : ℕ) → u.taken ≡ s.taken → Fitting w s → suc s.taken ≤ stream_limit
    → Fitting w (next_by w late own s u x)
unfolding marks_single only-single two_marks
fitting-next w late own s u x same h l = record {
  rules_same = h.rules_same;
  positions_same = h.positions_same;
  live = inside-next w late own s u x;
  marks = single-run w own (run_marks w late s.reported) (single-run w late s.reported h.marks);
  limit = l;
  held = held_next w late own s u x;
  pending = pending_next w late own s u x;
  late = late-next w late own s u x same;
  after_first = begun-next w late own s u x;
}

module _ (w : Automaton) (s : Stream) (block : List ℕ) (h : Fitting w s) where
  pub fitting-after : (k : ℕ) → s.taken + k ≤ stream_limit → Fitting w (state_after w s block k)
  unfolding after byte_state
  fitting-after zero l = h
  fitting-after (suc k) l =
      let u : Stream = state_after w s block k in
      let x : ℕ = get_or block k 0 in
      fitting-next w (late_test w u x) (own_test w u x) u u x refl (fitting-after k (omega arith)) (omega (arith, taken-after w s block k))

-- ---- the answer of a scan

by-test : {A : Type 0} (P : A → Type 0) (b : Bool) {x y : A} → (b ≡ true → P x) → (b ≡ false → P y) → P (cond b x y)
by-test P true f g = f refl
by-test P false f g = g refl

module _ (t : List ℕ) (s : Stream) (c : Call) where
  -- the number in the answer is the call's number
  pub scan-number : (scanned t s c).number ≡ call_number t s c
  unfolding scanned
  scan-number = by-test (λ (r : Scanned). r.number ≡ n) (eqb n 0) (λ e. sym (eqb-true n 0 e)) (λ e. refl)
    where
      n : ℕ
      n = call_number t s c

  -- at most all bytes are taken
  pub taken-within : (scanned t s c).taken ≤ length c.block
  unfolding scanned taken_by
  taken-within =
      by-test (λ (r : Scanned). r.taken ≤ length c.block) (eqb (call_number t s c) 0)
      (λ e. fits_le (plain (automaton t)) s c.block c.allowance (space c.slots) (length c.block)) (λ e. zero-le)

  -- by its number
  module _ (ok : call_number t s c ≡ 0) where
    abbrev k : ℕ
    k = taken_by t s c

    pub accepted-scan : scanned t s c ≡ record { number = 0; taken = k; reports = length (reports_of (automaton t) s c.block k); used = cost_of (automaton t) s c.block k; stream = state_after (automaton t) s c.block k }
    unfolding scanned
    accepted-scan = rw (eq-eqb (call_number t s c) 0 ok)

  pub refused-scan : ¬ (call_number t s c ≡ 0)
      → scanned t s c ≡ record { number = call_number t s c; taken = 0; reports = 0; used = 0; stream = s }
  unfolding scanned
  refused-scan bad = rw (ne_eqb (call_number t s c) 0 bad)

  module _ (ok : (scanned t s c).number ≡ 0) where
    is-accepted : call_number t s c ≡ 0
    is-accepted = sym scan-number ∙ ok

    held : Accepted t s (length c.block) (space c.slots)
    held = accepted t s (length c.block) (space c.slots) is-accepted

    -- the state handed back is that after the bytes taken
    pub scan_state : (scanned t s c).stream ≡ state_after (automaton t) s c.block (scanned t s c).taken
    scan_state = ap (λ (r : Scanned). r.stream) (accepted-scan is-accepted) ∙ sym (ap (λ (r : Scanned). state_after (automaton t) s c.block r.taken) (accepted-scan is-accepted))

    -- an accepted scan of a block with a byte takes one, if it may use 257 units
    pub progress : 257 ≤ c.allowance → 0 < length c.block → 0 < (scanned t s c).taken
    unfolding taken_by automaton
    progress wide h =
        omega (arith, ap (λ (r : Scanned). r.taken) (accepted-scan is-accepted), one-fits (automaton t) s c.block c.allowance (space c.slots) (length c.block) h (omega (arith, held.space)) wide)

    -- and gives back a state that is valid for the same words
    pub scanned-valid : valid (automaton t) (scanned t s c).stream ≡ true
    scanned-valid =
        ap (valid (automaton t)) scan_state
        ∙ valid-is (automaton t) (state_after (automaton t) s c.block (scanned t s c).taken)
        (fitted (automaton t) (state_after (automaton t) s c.block (scanned t s c).taken)
        (fitting-after (automaton t) s c.block held.state (scanned t s c).taken (omega (arith, held.short, taken-within))))
        held.none_has_starts

  -- what a scan uses: no more than it may, and from 1 to 257 units for each byte that it takes
  pub used-within : ((scanned t s c).used ≤ c.allowance)
      × ((scanned t s c).taken ≤ (scanned t s c).used)
      × ((scanned t s c).used ≤ 257 * (scanned t s c).taken)
  unfolding scanned taken_by
  used-within =
      by-test (λ (r : Scanned). (r.used ≤ c.allowance) × (r.taken ≤ r.used) × (r.used ≤ 257 * r.taken)) (eqb (call_number t s c) 0)
      (λ e. (
        (fits-within (plain (automaton t)) s c.block c.allowance (space c.slots) (length c.block)).1,
        cost-some (automaton t) s c.block (taken_by t s c),
        cost-few (automaton t) s c.block (taken_by t s c),
      ))
      (λ e. (zero-le, zero-le, zero-le))

-- ---- the answer of a closing

-- the closed mark is no part of the test
shut-valid : (w : Automaton) (s : Stream) → valid w (shut s) ≡ valid w s
unfolding valid sound same_counts live_inside marks_single under_limit held_inside pending_inside pending_late begun
shut-valid w s = refl

module _ (t : List ℕ) (s : Stream) (l : Lists) where
  pub close-number-is : (closed t s l).number ≡ close_number t s (space l)
  unfolding closed
  close-number-is = by-test (λ (r : Closed). r.number ≡ n) (eqb n 0) (λ e. sym (eqb-true n 0 e)) (λ e. refl)
    where
      n : ℕ
      n = close_number t s (space l)

  -- by its number
  pub accepted-close : close_number t s (space l) ≡ 0 → closed t s l ≡ record { number = 0; reports = length (close_reports (automaton t) s); stream = shut s }
  unfolding closed
  accepted-close ok = rw (eq-eqb (close_number t s (space l)) 0 ok)

  pub refused-close : ¬ (close_number t s (space l) ≡ 0) → closed t s l ≡ record { number = close_number t s (space l); reports = 0; stream = s }
  unfolding closed
  refused-close bad = rw (ne_eqb (close_number t s (space l)) 0 bad)

  module _ (ok : (closed t s l).number ≡ 0) where
    -- an accepted one gives back a state that is valid for the same words
    pub closed-valid : valid (automaton t) (closed t s l).stream ≡ true
    closed-valid =
        ap (λ (r : Closed). valid (automaton t) r.stream) (accepted-close (sym close-number-is ∙ ok)) ∙ shut-valid (automaton t) s
        ∙ valid-is (automaton t) s (fitted (automaton t) s held.state) held.none_has_starts
      where
        held : Accepted t s 0 (space l)
        held = accepted t s 0 (space l) (close-number t s (space l) ∙ sym close-number-is ∙ ok)

-- ---- what a function gives

-- a call of number 0 is accepted
pub scan-ok : (s : Stream) (r : Result Progress Refusal) → (scanned_of s r).number ≡ 0 → IsOk r
scan-ok s (Ok p) z = refl
scan-ok s (Err e) z = absurd (omega (arith, number-above e, z))

pub close-ok : (s : Stream) (r : Result Ending Refusal) → (closed_of s r).number ≡ 0 → IsOk r
close-ok s (Ok e) z = refl
close-ok s (Err e) z = absurd (omega (arith, number-above e, z))
