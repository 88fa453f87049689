-- What the private functions promise, where that is not an equation with a definition that a reader
-- must believe. Assumes nothing: these are definitions.
use Rattle.std.specs.Prelude.{◌≡◌, Option, None, Some, Bool, true, false, cond, ◌&&◌, ◌⊎◌, List, [], ◌++◌, map, ℕ, zero, suc, ◌+◌, ◌-◌, ◌^◌, ◌<◌, ◌≤◌, min, eqb, ltb, length, get_or, take, drop}
use borrow.Rule.Slice.PartMut.{put_mid}
use Rattle.sets.specs.Set.{has, any, empty_set, full_set, kept_below, union_of, size_of}
use Rattle.kinds.specs.declared.Side.{Side}
use Rattle.kinds.specs.Side.{side_of}
use Rattle.table.specs.Layout.{max_positions, positions_of}
use Rattle.table.specs.Automaton.{Automaton, automaton, single}
use Rattle.steps.specs.Step.{stepped, lasts_of, lates_of, rules_where}
use Rattle.stream.specs.declared.Stream.{Stream}
use Rattle.stream.specs.declared.scan.Sets.{Sets}
use Rattle.stream.specs.declared.scan.Turn.{Turn}
use Rattle.stream.specs.declared.reports.Run.{Run}
use Rattle.stream.specs.declared.Progress.{Progress}
use Rattle.stream.specs.Byte.{Report, Machine, after, reports_by, cost_by, next_live, next_held, next_pending, run_reports, run_marks, two_reports, two_marks, byte_reports, byte_state, plain, state_after, reports_of, cost_of, close_reports}
use Rattle.stream.specs.Calls.{Lists, space, written}

-- a state of which the live set, the marks, the last byte's side and the bytes taken count
abbrev pub state_of : (live : List ℕ) → (reported : ℕ) → (last : Side) → (taken : ℕ) → Stream
state_of live reported last taken = record {
  live = live;
  held = empty_set;
  reported = reported;
  pending = 0;
  last = last;
  taken = taken;
  rules = 0;
  positions = 0;
  closed = false;
}

-- ---- the lent lists

-- a list with what these reports give it from place n on, and the lists with these reports there
abbrev pub column_at : {R A : Type 0} → (R → A) → (n : ℕ) → List R → List A → List A
column_at f n new old = take n old ++ (map f new ++ drop (n + length new) old)

unfoldable pub written_at : (n : ℕ) → List Report → Lists → Lists
written_at n new l = record { ids = column_at (λ r. r.id) n new l.ids; offsets = column_at (λ r. r.end) n new l.offsets }

-- what is free of each from place n on, as it is lent, and the lists once it came back
abbrev pub part_at : {A : Type 0} → ℕ → List A → List A
part_at n x = take (length x - n) (drop n x)

abbrev pub free : ℕ → Lists → Lists
free n l = record { ids = part_at n l.ids; offsets = part_at n l.offsets }

abbrev pub back : ℕ → Lists → Lists → Lists
back n l last = record { ids = put_mid n (length l.ids - n) l.ids last.ids; offsets = put_mid n (length l.offsets - n) l.offsets last.offsets }

-- as long as others
pub record AsLong (l l' : Lists) : Type 0 where
  pub ids : length l.ids ≡ length l'.ids
  pub offsets : length l.offsets ≡ length l'.offsets

-- these reports are at the front of lists that were l₀
pub record Filled (new : List Report) (l₀ : Lists) (count : ℕ) (l : Lists) : Type 0 where
  pub count_is : count ≡ length new
  pub room : count ≤ space l₀
  pub lists_are : l ≡ written new l₀

-- ---- runs of reports

-- a run of the rules that pass the test, written from place n on
pub record Wrote (w : Automaton) (test : ℕ → Bool) (marks : ℕ) (give : ℕ → Report) (n : ℕ) (l : Lists) (next marks' : ℕ) (l' : Lists) : Type 0 where
  pub next_is : next ≡ n + length (run_reports test marks give w.rules)
  pub marks_are : marks' ≡ run_marks w test marks
  pub lists_are : l' ≡ written_at n (run_reports test marks give w.rules) l

-- two runs, one after the other
pub record WroteTwo (w : Automaton) (one two : ℕ → Bool) (marks : ℕ) (first second : ℕ → Report) (l : Lists) (reports marks' : ℕ) (l' : Lists) : Type 0 where
  pub reports_are : reports ≡ length (two_reports w one two marks first second)
  pub marks_are : marks' ≡ two_marks w one two marks
  pub lists_are : l' ≡ written (two_reports w one two marks first second) l

-- both runs of one byte, written if all their reports fit; if not, the lists and the marks are as
-- they were
pub record Delivered (w : Automaton) (one two : ℕ → Bool) (marks : ℕ) (first second : ℕ → Report) (l : Lists) (full : Bool) (reports marks' : ℕ) (l' : Lists) : Type 0 where
  pub full_if : full ≡ ltb (space l) (length (two_reports w one two marks first second))
  pub reports_are : reports ≡ length (cond full [] (two_reports w one two marks first second))
  pub marks_are : marks' ≡ cond full marks (two_marks w one two marks)
  pub lists_are : l' ≡ written (cond full [] (two_reports w one two marks first second)) l

-- the same, as what a function gives: none, if not all fit
abbrev pub DeliveredBy : (w : Automaton) (one two : ℕ → Bool) (marks : ℕ) (first second : ℕ → Report) (l : Lists) → Option Run → (l' : Lists) → Type 0
DeliveredBy w one two marks first second l None l' = Delivered w one two marks first second l true 0 marks l'
DeliveredBy w one two marks first second l (Some r) l' = Delivered w one two marks first second l false r.next r.reported l'

-- both runs of a closing
pub record Ended (w : Automaton) (s : Stream) (l : Lists) (reports : ℕ) (l' : Lists) : Type 0 where
  pub reports_are : reports ≡ length (close_reports w s)
  pub lists_are : l' ≡ written (close_reports w s) l

-- ---- the bytes of a block

-- the side before the byte at place k of a block, before which this side stands
unfoldable pub side_at : Side → List ℕ → ℕ → Side
side_at before block zero = before
side_at before block (suc k) = side_of (get_or block k 0)

-- nothing is live and the bytes of the block from `from` up to `to`, at most up to `end`, leave it
-- so, `taken` bytes of the stream before the block
pub record Skipped (w : Automaton) (live block : List ℕ) (taken from end to : ℕ) : Type 0 where
  pub rises : from ≤ to
  pub inside : to ≤ end
  pub empty : from < to → live ≡ empty_set
  pub still : (j : ℕ) → from ≤ j → j < to → (before : Side)
      → stepped w false before (side_of (get_or block j 0)) w.positions empty_set (taken + j) (get_or block j 0) ≡ empty_set

-- no match can begin inside a stream with a byte of a block from `from` up to `to`, which is at
-- most `end`
pub record NoOpener (w : Automaton) (block : List ℕ) (from end to : ℕ) : Type 0 where
  pub rises : from ≤ to
  pub inside : to ≤ end
  pub none : (j : ℕ) → from ≤ j → j < to → w.opens (get_or block j 0) ≡ false

-- what stands before the byte at `to`, once the bytes of a block from `from` up to it are passed
-- over
abbrev pub passed_side : (from to : ℕ) → Side → (block : List ℕ) → Side
passed_side from to side block = cond (ltb from to) (side_of (get_or block (to - 1) 0)) side

-- some position of a live set waits for the next byte: it may end a match once that is known
abbrev pub waits_in : Automaton → (live : List ℕ) → Bool
waits_in w live = any max_positions (λ q. has live q && has (lates_of w) q)

-- the sets of a table that a scan asks for once
pub record SetsOf (t : List ℕ) (sets : Sets) : Type 0 where
  pub enders_is : sets.enders ≡ union_of (lasts_of (automaton t)) (lates_of (automaton t))
  pub late_is : sets.late ≡ lates_of (automaton t)
  pub single_is : sets.single ≡ rules_where (automaton t) (single (automaton t))
  pub positions_is : sets.positions ≡ kept_below full_set (positions_of t)

-- a turn that passes bytes over, up to place `to`: they leave the live set as it is and cost a unit
-- each
abbrev pub skip_to : (block : List ℕ) → Turn → (to : ℕ) → Turn
skip_to block z to = record {
  live = z.live;
  before = cond (ltb z.at to) z.live z.before;
  reported = z.reported;
  side = passed_side z.at to z.side block;
  waits = z.waits;
  at = to;
  count = z.count;
  left = z.left - (to - z.at);
}

pub record Passed (w : Automaton) (taken : ℕ) (block : List ℕ) (z r : Turn) : Type 0 where
  pub skipped : Skipped w z.live block taken z.at (min (length block) (z.at + z.left)) r.at
  pub is : r ≡ skip_to block z r.at

-- a turn that takes byte x; s is the state before it, as far as it counts
abbrev pub take_at : Automaton → Stream → (x : ℕ) → Turn → Turn
take_at w s x z = record {
  live = next_live w s x;
  before = z.live;
  reported = (byte_state w s x).reported;
  side = side_of x;
  waits = waits_in w (next_live w s x);
  at = z.at + 1;
  count = z.count + length (byte_reports w s x);
  left = z.left - suc (size_of z.live);
}

-- the state before the next byte of a block, as far as it counts
abbrev pub here_at : (taken : ℕ) → Turn → Stream
here_at taken z = state_of z.live z.reported z.side (taken + z.at)

-- before the end of the block, or a byte whose reports do not fit or that cannot be paid for
pub record Stops (w : Automaton) (s : Stream) (block : List ℕ) (z : Turn) (l l' : Lists) : Type 0 where
  pub over : z.at < length block → (space l < z.count + length (byte_reports w s (get_or block z.at 0))) ⊎ (z.left < suc (size_of z.live))
  pub lists_are : l' ≡ l

pub record Takes (w : Automaton) (s : Stream) (block : List ℕ) (z : Turn) (l : Lists) (r : Turn) (l' : Lists) : Type 0 where
  pub inside : z.at < length block
  pub room : z.count + length (byte_reports w s (get_or block z.at 0)) ≤ space l
  pub paid : suc (size_of z.live) ≤ z.left
  pub is : r ≡ take_at w s (get_or block z.at 0) z
  pub lists_are : l' ≡ written_at z.count (byte_reports w s (get_or block z.at 0)) l

-- a byte that is offered is taken, or there is no next turn
abbrev pub Offered : (w : Automaton) (s : Stream) (block : List ℕ) (z : Turn) (l : Lists) → Option Turn → (l' : Lists) → Type 0
Offered w s block z l None l' = Stops w s block z l l'
Offered w s block z l (Some r) l' = Takes w s block z l r l'

-- once some bytes of a block are taken: the state after them as far as it counts, the live set
-- before the last of them, what they cost and the lists
pub record Running (w : Automaton) (s : Stream) (allowance : ℕ) (block : List ℕ) (l₀ : Lists) (z : Turn) (l : Lists) : Type 0 where
  pub inside : z.at ≤ length block
  pub live_is : z.live ≡ (state_after w s block z.at).live
  pub before_is : 0 < z.at → z.before ≡ (state_after w s block (z.at - 1)).live
  pub marks_are : z.reported ≡ (state_after w s block z.at).reported
  pub side_is : z.side ≡ side_at s.last block z.at
  pub waits_is : z.waits ≡ waits_in w z.live
  pub small : z.reported < 2 ^ 64
  pub paid : z.left + cost_of w s block z.at ≡ allowance
  pub filled : Filled (reports_of w s block z.at) l₀ z.count l

-- too many reports, or too much work
abbrev pub Over : {S R : Type 0} → Machine S R → S → (allowance : ℕ) → List ℕ → (room k : ℕ) → Type 0
Over m s allowance block room k = (room < length (reports_by m s block k)) ⊎ (allowance < cost_by m s block k)

-- all that can be taken: one byte more, if there is one, would be too many
pub record Ran (w : Automaton) (s : Stream) (allowance : ℕ) (block : List ℕ) (l : Lists) (r : Turn) (l' : Lists) : Type 0 where
  pub running : Running w s allowance block l r l'
  pub stops : r.at < length block → Over (plain w) s allowance block (space l) (r.at + 1)

-- what waits once n bytes of a block are taken: what the state had, if there are none; if not, what
-- the last of them leaves, before which this set was live
pub record Left (w : Automaton) (s : Stream) (block before : List ℕ) (n : ℕ) (held : List ℕ) (pending : ℕ) : Type 0 where
  pub held_is : held
      ≡ cond (eqb n 0) s.held (next_held w (state_of before 0 (side_at s.last block (n - 1)) (s.taken + (n - 1))) (get_or block (n - 1) 0))
  pub pending_is : pending
      ≡ cond (eqb n 0) s.pending (next_pending w (state_of before 0 (side_at s.last block (n - 1)) (s.taken + (n - 1))) (get_or block (n - 1) 0))

-- what an accepted scan gives: of a machine, so that a scan that is given more than a table
-- promises the same
pub record AdvancedBy {S : Type 0} (m : Machine S Report) (out : S → Stream) (s : S) (allowance : ℕ) (block : List ℕ) (l : Lists) (r : Progress) (l' : Lists) : Type 0 where
  pub inside : r.taken ≤ length block
  pub used_is : r.used ≡ cost_by m s block r.taken
  pub paid : r.used ≤ allowance
  pub stream_is : r.stream ≡ out (after m s block r.taken)
  pub filled : Filled (reports_by m s block r.taken) l r.reports l'
  pub stops : r.taken < length block → Over m s allowance block (space l) (r.taken + 1)

abbrev pub Advanced : (w : Automaton) (s : Stream) (allowance : ℕ) (block : List ℕ) (l : Lists) (r : Progress) (l' : Lists) → Type 0
Advanced w = AdvancedBy (plain w) (λ s. s)
