-- What one byte does to a stream, and what some bytes do; what closing reports. Over the automaton
-- that the words describe, not over words; and what some bytes do is said over any machine that
-- takes a byte at a time. Assumes nothing: these are definitions.
use Rattle.std.specs.Prelude.{Bool, true, false, cond, not, ◌&&◌, ◌||◌, List, [], ◌∷◌, ◌++◌, ℕ, zero, suc, ◌+◌, ◌-◌, eqb, leb, ltb, length, get_or}
use Rattle.sets.specs.Set.{on, word_of, empty_set, union_of, size_of}
use Rattle.kinds.specs.declared.Side.TheVariants.{Newline}
use Rattle.kinds.specs.Side.{side_of}
use Rattle.table.specs.Gaps.{between, before_last, unsettled, at_the_end}
use Rattle.table.specs.Automaton.{Automaton, single}
use Rattle.steps.specs.Step.{stepped, ends, ends_newly, late_in, rules_where, windowed}
use Rattle.stream.specs.declared.Stream.{Stream}

-- a report: the rule's id, and the end offset
pub record Report : Type 0 where
  pub id : ℕ
  pub end : ℕ

-- ---- some bytes

-- one byte: the state after it, the reports that it brings, and what it costs
pub record Machine (S R : Type 0) : Type 0 where
  pub next : S → ℕ → S
  pub reports : S → ℕ → List R
  pub cost : S → ℕ

module _ {S R : Type 0} (m : Machine S R) where
  -- "A scan takes bytes one at a time": the first k bytes of a block, the state after them, and the
  -- reports that they bring
  unfoldable pub after : S → List ℕ → ℕ → S
  after s block zero = s
  after s block (suc k) = m.next (after s block k) (get_or block k 0)

  unfoldable pub reports_by : S → List ℕ → ℕ → List R
  reports_by s block zero = []
  reports_by s block (suc k) = reports_by s block k ++ m.reports (after s block k) (get_or block k 0)

  -- the units that they cost
  unfoldable pub cost_by : S → List ℕ → ℕ → ℕ
  cost_by s block zero = 0
  cost_by s block (suc k) = cost_by s block k + m.cost (after s block k)

  -- "The scan stops before the first byte it can't pay for or can't report", and "counts the late
  -- pairs with the byte that brings them": of the first k bytes of the block, as many as have
  -- reports that fit in `room` and cost no more than the allowance. More bytes never have fewer
  -- reports and never cost less, so the next byte is the first that does not fit.
  abbrev pub within_by : S → (allowance : ℕ) → List ℕ → (room k : ℕ) → Bool
  within_by s allowance block room k = leb (length (reports_by s block k)) room && leb (cost_by s block k) allowance

  unfoldable pub fits_by : S → (allowance : ℕ) → List ℕ → (room k : ℕ) → ℕ
  fits_by s allowance block room zero = 0
  fits_by s allowance block room (suc k) = cond (within_by s allowance block room (suc k)) (suc k) (fits_by s allowance block room k)

-- ---- runs of reports

-- A run of reports has one end offset and some rules, "by rising id": places are by rising id, and
-- of the first n those report that pass the test and have no mark "already reported". What each
-- reports is given by its place.
abbrev pub due : (ℕ → Bool) → (marks : ℕ) → ℕ → Bool
due test marks a = test a && not (on marks a)

unfoldable pub run_reports : {R : Type 0} → (ℕ → Bool) → (marks : ℕ) → (ℕ → R) → (n : ℕ) → List R
run_reports test marks give zero = []
run_reports test marks give (suc n) = run_reports test marks give n ++ cond (due test marks n) (give n ∷ []) []

-- ---- one byte, and closing

-- "The state also shows its busy figure: the number of live positions"; "It equals the ones in the
-- live set."; "positions behind an unsettled assertion aren't in the busy figure, nor does closing
-- put them there".
abbrev pub busy_of : Stream → ℕ
busy_of s = size_of s.live

module _ (w : Automaton) where
  -- the next live set of a state: what byte x steps to, among the positions of the table
  abbrev pub next_live : Stream → ℕ → List ℕ
  next_live s x = stepped w false s.last (side_of x) w.positions s.live s.taken x

  -- "A held position or pair": PCRE "also lets `$` hold just before a newline that is the last
  -- byte", so a byte 10 may be the last line's end. The positions that it then steps to are held,
  -- and so are the rules that end before it and need that; the next byte settles both.
  unfoldable pub next_held : Stream → ℕ → List ℕ
  next_held s x = cond (eqb x 10) (stepped w true s.last (side_of x) w.positions s.live s.taken x) empty_set

  -- The rules that end before a byte 10 if it is the last, and not if any newline stands there: in
  -- a built table those pairs came with the byte, or before. A pair has a byte before its end
  -- offset.
  unfoldable pub next_pending : Stream → ℕ → ℕ
  next_pending s x =
      cond (eqb x 10 && ltb 0 s.taken) (rules_where w (ends_newly w (before_last s.last) s.live (between s.last Newline) s.live)) 0

  -- the report of the rule in place a at this end offset
  abbrev pub given : (end a : ℕ) → Report
  given end a = record { id = w.id a; end = end }

  -- the marks after a run: the rules that pass the test gain theirs if they are single-match
  unfoldable pub run_marks : (ℕ → Bool) → (marks : ℕ) → ℕ
  run_marks test marks = word_of 64 (λ a. on marks a || (ltb a w.rules && (single w a && test a)))

  -- two runs, one after the other: their reports, and the marks afterwards
  unfoldable pub two_reports : {R : Type 0} → (one two : ℕ → Bool) → (marks : ℕ) → (first second : ℕ → R) → List R
  two_reports one two marks first second = run_reports one marks first w.rules ++ run_reports two (run_marks one marks) second w.rules

  unfoldable pub two_marks : (one two : ℕ → Bool) → (marks : ℕ) → ℕ
  two_marks one two marks = run_marks two (run_marks one marks)

  -- "A pair that so depends on the next byte is delivered when that byte is taken, or at closing,
  -- before the pairs of the newer offset, each run by rising id." Byte x has the late run, of the
  -- rules that end before it now that it is known, with a position that waits for that, and its
  -- own. A rule's window of end offsets is asked in the tests of runs alone.
  abbrev pub late_test : Stream → ℕ → ℕ → Bool
  late_test s x = windowed w (ends_newly w (between s.last (side_of x)) (late_in w s.live) unsettled s.live) s.taken

  abbrev pub own_test : Stream → ℕ → ℕ → Bool
  own_test s x = windowed w (ends w unsettled (next_live s x)) (suc s.taken)

  -- the state after a byte, by the tests of its two runs and the pairs that it leaves held
  abbrev pub state_by : (late own : ℕ → Bool) → (pending : ℕ) → Stream → ℕ → Stream
  state_by late own pending s x = record {
    live = next_live s x;
    held = next_held s x;
    reported = two_marks late own s.reported;
    pending = pending;
    last = side_of x;
    taken = suc s.taken;
    rules = s.rules;
    positions = s.positions;
    closed = s.closed;
  }

  -- one byte: the reports that it brings, and the state after it
  unfoldable pub byte_reports : Stream → ℕ → List Report
  byte_reports s x = two_reports (late_test s x) (own_test s x) s.reported (given s.taken) (given (suc s.taken))

  unfoldable pub byte_state : Stream → ℕ → Stream
  byte_state s x = state_by (late_test s x) (own_test s x) (next_pending s x) s x

  -- a stream as a machine: "A byte costs one unit plus the busy figure before it"
  abbrev pub plain : Machine Stream Report
  plain = record { next = byte_state; reports = byte_reports; cost = λ s. suc (busy_of s) }

  abbrev pub state_after : Stream → List ℕ → ℕ → Stream
  state_after = after plain

  abbrev pub reports_of : Stream → List ℕ → ℕ → List Report
  reports_of = reports_by plain

  abbrev pub cost_of : Stream → List ℕ → ℕ → ℕ
  cost_of = cost_by plain

  abbrev pub fits : Stream → (allowance : ℕ) → List ℕ → (room k : ℕ) → ℕ
  fits = fits_by plain

  -- "Closing reports pairs at offset n-1 by rising id, then those at n": the pairs held for n-1,
  -- and those not already given whose match needs the end; "of a single-match rule that has
  -- reported, none".
  abbrev pub held_test : Stream → ℕ → Bool
  held_test s = windowed w (on s.pending) (s.taken - 1)

  abbrev pub end_test : Stream → ℕ → Bool
  end_test s = windowed w (ends_newly w (at_the_end s.last) (union_of s.live s.held) unsettled s.live) s.taken

  unfoldable pub close_reports : Stream → List Report
  close_reports s = two_reports (held_test s) (end_test s) s.reported (given (s.taken - 1)) (given s.taken)
