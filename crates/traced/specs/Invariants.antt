-- What the private functions promise, where that is not an equation with a definition that a reader
-- must believe. Assumes nothing: these are definitions.
use Rattle.std.specs.Prelude.{◌≡◌, Bool, true, false, Option, None, Some, cond, ◌⊎◌, List, ℕ, suc, ◌+◌, ◌-◌, ◌^◌, ◌<◌, ◌≤◌, min, ltb, length, get_or}
use borrow.Rule.Slice.PartMut.{put_mid}
use Rattle.sets.specs.Set.{on, empty_set, full_set, kept_below}
use Rattle.table.specs.Layout.{positions_of, max_rules, max_positions}
use Rattle.table.specs.Table.{is_table}
use Rattle.table.specs.Automaton.{Automaton, automaton, single}
use Rattle.steps.specs.Step.{list_from, lasts_of, lates_of, keepers_of, rules_where, OnlyIn}
use Rattle.stream.specs.declared.Stream.{Stream}
use Rattle.stream.specs.Byte.{after, reports_by, cost_by, run_reports, run_marks, two_reports, two_marks, next_live, next_held, busy_of}
use Rattle.stream.specs.Invariants.{column_at, part_at, passed_side, Over}
use Rattle.quiet.specs.Pass.{Quietly}
use Rattle.traced.specs.declared.Starts.{Starts}
use Rattle.traced.specs.declared.Traced.{Traced}
use Rattle.traced.specs.declared.reports.Marks.{Marks}
use Rattle.traced.specs.declared.scan.Gates.{Gates}
use Rattle.traced.specs.declared.scan.Turn.{Turn}
use Rattle.traced.specs.declared.scan.Waiting.{Waiting}
use Rattle.traced.specs.declared.scan.Delivery.{Delivery}
use Rattle.traced.specs.Byte.{Report, pending_long, stream_next, traced, next_starts, byte_reports, close_reports}
use Rattle.traced.specs.Calls.{Lists, lists, space, in_stream, from_offset, written}

-- the sets and rules of a table that a scan asks for once
pub record GatesOf (t : List ℕ) (g : Gates) : Type 0 where
  pub last_is : g.last ≡ lasts_of (automaton t)
  pub late_is : g.late ≡ lates_of (automaton t)
  pub keepers_are : g.keepers ≡ keepers_of (automaton t)
  pub positions_is : g.positions ≡ kept_below full_set (positions_of t)
  pub single_is : g.single ≡ rules_where (automaton t) (single (automaton t))
  pub leftmost_is : g.leftmost ≡ rules_where (automaton t) (automaton t).leftmost

-- a state by its parts
abbrev pub state_of : Stream → (live held pairs : List ℕ) → Traced
state_of s live held pairs = record { stream = s; starts = record { live = live; held = held; pairs = pairs } }

abbrev pub state_by : Stream → Starts → Traced
state_by s k = record { stream = s; starts = k }

-- ---- the lent lists

-- the lists with these reports from place n on
unfoldable pub written_at : (first n : ℕ) → List Report → Lists → Lists
written_at first n new l = record {
  ids = column_at (λ r. r.pair.id) n new l.ids;
  offsets = column_at (λ r. r.pair.end) n new l.offsets;
  starts = column_at (λ r. in_stream r.start) n new l.starts;
  relatives = column_at (λ r. from_offset first r.start) n new l.relatives;
}

-- what is free of each from place n on, as it is lent, and the lists once it came back
abbrev pub free : ℕ → Lists → Lists
free n l = lists (part_at n l.ids) (part_at n l.offsets) (part_at n l.starts) (part_at n l.relatives)

abbrev pub back : ℕ → Lists → Lists → Lists
back n l last =
    lists (put_mid n (length l.ids - n) l.ids last.ids) (put_mid n (length l.offsets - n) l.offsets last.offsets)
    (put_mid n (length l.starts - n) l.starts last.starts) (put_mid n (length l.relatives - n) l.relatives last.relatives)

-- as long as others
pub record AsLong (l l' : Lists) : Type 0 where
  pub ids : length l.ids ≡ length l'.ids
  pub offsets : length l.offsets ≡ length l'.offsets
  pub starts : length l.starts ≡ length l'.starts
  pub relatives : length l.relatives ≡ length l'.relatives

-- these reports are at the front of lists that were l₀
pub record Filled (first : ℕ) (new : List Report) (l₀ : Lists) (count : ℕ) (l : Lists) : Type 0 where
  pub count_is : count ≡ length new
  pub room : count ≤ space l₀
  pub lists_are : l ≡ written first new l₀

-- ---- runs of reports

-- the number in a place of a list
abbrev pub at : List ℕ → ℕ → ℕ
at l a = get_or l a 0

-- a start for each place that fits a signed number
abbrev pub Small : List ℕ → Type 0
Small froms = (a : ℕ) → a < max_rules → at froms a < 2 ^ 63

-- what a run is written with, by its table
pub record MarksOf (t : List ℕ) (m : Marks) : Type 0 where
  pub single_is : m.single ≡ rules_where (automaton t) (single (automaton t))
  pub leftmost_is : m.leftmost ≡ rules_where (automaton t) (automaton t).leftmost
  pub first_small : m.first < 2 ^ 63

-- some rules have the start that is given for each place, and every other has 0
pub record RuleStarts (rules : ℕ) (give : ℕ → ℕ) (froms : List ℕ) : Type 0 where
  pub as_long : length froms ≡ max_rules
  pub each : (a : ℕ) → a < max_rules → at froms a ≡ cond (on rules a) (give a) 0

-- a run of the rules that pass the test, written from place n on
pub record Wrote (w : Automaton) (test : ℕ → Bool) (marks : ℕ) (give : ℕ → Report) (first n : ℕ) (l : Lists) (next marks' : ℕ) (l' : Lists) : Type 0 where
  pub next_is : next ≡ n + length (run_reports test marks give w.rules)
  pub marks_are : marks' ≡ run_marks w test marks
  pub lists_are : l' ≡ written_at first n (run_reports test marks give w.rules) l

-- two runs, one after the other
pub record WroteTwo (w : Automaton) (one two : ℕ → Bool) (marks : ℕ) (give more : ℕ → Report) (first : ℕ) (l : Lists) (reports marks' : ℕ) (l' : Lists) : Type 0 where
  pub reports_are : reports ≡ length (two_reports w one two marks give more)
  pub marks_are : marks' ≡ two_marks w one two marks
  pub lists_are : l' ≡ written first (two_reports w one two marks give more) l

-- both runs of a closing
pub record Ended (w : Automaton) (z : Traced) (l : Lists) (reports : ℕ) (l' : Lists) : Type 0 where
  pub reports_are : reports ≡ length (close_reports w z)
  pub lists_are : l' ≡ written z.stream.taken (close_reports w z) l

-- ---- the starts along a byte

-- n starts that are all 0
abbrev pub zeros : ℕ → List ℕ
zeros n = list_from 0 n (λ q. 0)

abbrev pub starts_of : (live held pairs : List ℕ) → Starts
starts_of live held pairs = record { live = live; held = held; pairs = pairs }

-- the starts of a valid state, as far as they are 0
pub record InOrder (s : Stream) (k : Starts) : Type 0 where
  pub live : OnlyIn s.live k.live
  pub held : OnlyIn s.held k.held
  pub as_many : length k.pairs ≡ max_rules
  pub pairs : (a : ℕ) → a < max_rules → on s.pending a ≡ false → get_or k.pairs a 0 ≡ 0

-- ---- the bytes of a block

-- what one byte's runs come to: the lists are too short for its reports, and all is as it was; or
-- they are written, and the starts carried along
pub record Gone (w : Automaton) (z : Traced) (x first : ℕ) (l : Lists) (reports marks : ℕ) (some waits : Bool) (k : Starts) (l' : Lists) : Type 0 where
  pub reports_are : reports ≡ length (byte_reports w z x)
  pub marks_are : marks ≡ (stream_next w z.stream z.starts.live x).reported
  pub starts_are : k ≡ next_starts w z x
  pub lists_are : l' ≡ written first (byte_reports w z x) l
  pub live_none : some ≡ false → k.live ≡ zeros max_positions
  pub wait_none : waits ≡ false → (k.held ≡ zeros max_positions) × (k.pairs ≡ zeros max_rules)

abbrev pub Delivered : (w : Automaton) (z : Traced) (x first : ℕ) (l : Lists) → Option Delivery → (k : Starts) (l' : Lists) → Type 0
Delivered w z x first l None k l' = (space l < length (byte_reports w z x)) × (k ≡ z.starts) × (l' ≡ l)
Delivered w z x first l (Some d) k l' = (length (byte_reports w z x) ≤ space l) × Gone w z x first l d.reports d.reported d.some d.waits k l'

-- ---- bytes that are passed over

-- a turn that passes bytes over, up to place `to`: a unit each, and nothing is held, if there are
-- any
abbrev pub pass_to : (block : List ℕ) → Turn → (to : ℕ) → Turn
pass_to block y to = record {
  stream = record {
    live = y.stream.live;
    held = cond (ltb y.at to) empty_set y.stream.held;
    reported = y.stream.reported;
    pending = cond (ltb y.at to) 0 y.stream.pending;
    last = passed_side y.at to y.stream.last block;
    taken = y.stream.taken + (to - y.at);
    rules = y.stream.rules;
    positions = y.stream.positions;
    closed = y.stream.closed;
  };
  at = to;
  count = y.count;
  left = y.left - (to - y.at);
  some = y.some;
  waits = y.waits;
}

pub record Passes (w : Automaton) (block : List ℕ) (y r : Turn) : Type 0 where
  pub further : y.at < r.at
  pub quiet : Quietly y.some y.waits y.stream.live y.stream.taken
  pub inside : r.at ≤ min (length block) (y.at + y.left)
  pub unopened : (j : ℕ) → y.at ≤ j → j < r.at → w.opens (get_or block j 0) ≡ false
  pub other : ¬ (get_or block (r.at - 1) 0 ≡ 10)
  pub marks_small : y.stream.reported < 2 ^ 64
  pub is : r ≡ pass_to block y r.at

-- some bytes are passed over, or none
abbrev pub Passed : (w : Automaton) (block : List ℕ) (y r : Turn) → Type 0
Passed w block y r = Passes w block y r ⊎ (r ≡ y)

-- ---- a byte that is offered

-- before the end of the block, or a byte whose reports do not fit or that cannot be paid for
pub record Stops (w : Automaton) (z : Traced) (block : List ℕ) (y : Turn) (l : Lists) (k : Starts) (l' : Lists) : Type 0 where
  pub over : y.at < length block → (space l < y.count + length (byte_reports w z (get_or block y.at 0))) ⊎ (y.left < suc (busy_of z.stream))
  pub starts_are : k ≡ z.starts
  pub lists_are : l' ≡ l

pub record Takes (w : Automaton) (z : Traced) (first : ℕ) (block : List ℕ) (y : Turn) (l : Lists) (r : Turn) (k : Starts) (l' : Lists) : Type 0 where
  pub inside : y.at < length block
  pub room : y.count + length (byte_reports w z (get_or block y.at 0)) ≤ space l
  pub paid : suc (busy_of z.stream) ≤ y.left
  pub stream_is : r.stream ≡ stream_next w z.stream z.starts.live (get_or block y.at 0)
  pub at_is : r.at ≡ y.at + 1
  pub count_is : r.count ≡ y.count + length (byte_reports w z (get_or block y.at 0))
  pub left_is : r.left ≡ y.left - suc (busy_of z.stream)
  pub starts_are : k ≡ next_starts w z (get_or block y.at 0)
  pub lists_are : l' ≡ written_at first y.count (byte_reports w z (get_or block y.at 0)) l
  pub live_none : r.some ≡ false → k.live ≡ zeros max_positions
  pub wait_none : r.waits ≡ false → (k.held ≡ zeros max_positions) × (k.pairs ≡ zeros max_rules)

-- a byte that is offered is taken, or the loop stops
abbrev pub Offered : (w : Automaton) (z : Traced) (first : ℕ) (block : List ℕ) (y : Turn) (l : Lists) → Option Turn → (k : Starts) (l' : Lists) → Type 0
Offered w z first block y l None k l' = Stops w z block y l k l'
Offered w z first block y l (Some r) k l' = Takes w z first block y l r k l'

-- once some bytes of a block are taken: the state after them, what they cost and the lists
pub record Running (w : Automaton) (z : Traced) (allowance : ℕ) (block : List ℕ) (l₀ : Lists) (y : Turn) (k : Starts) (l : Lists) : Type 0 where
  pub inside : y.at ≤ length block
  pub state_is : record { stream = y.stream; starts = k } ≡ after (traced w) z block y.at
  pub paid : y.left + cost_by (traced w) z block y.at ≡ allowance
  pub filled : Filled z.stream.taken (reports_by (traced w) z block y.at) l₀ y.count l
  pub only : OnlyIn y.stream.live k.live
  pub live_none : y.some ≡ false → k.live ≡ zeros max_positions
  pub wait_none : y.waits ≡ false → (k.held ≡ zeros max_positions) × (k.pairs ≡ zeros max_rules)

pub record Ran (w : Automaton) (z : Traced) (allowance : ℕ) (block : List ℕ) (l : Lists) (r : Turn) (k : Starts) (l' : Lists) : Type 0 where
  pub running : Running w z allowance block l r k l'
  pub rests : r.at < length block → Over (traced w) z allowance block (space l) (r.at + 1)

-- what is known of a byte before its reports are written: the table, what the byte leaves, and
-- which starts are 0
pub record Byte (t : List ℕ) (gates : Gates) (s : Stream) (next : List ℕ) (waiting : Waiting) (x : ℕ) (some waits : Bool) (k : Starts) : Type 0 where
  pub table : is_table t ≡ true
  pub gates_are : GatesOf t gates
  pub next_is : next ≡ next_live (automaton t) s x
  pub held_is : waiting.held ≡ next_held (automaton t) s x
  pub pending_is : waiting.pending ≡ pending_long (automaton t) s k.live x
  pub only : OnlyIn s.live k.live
  pub live_none : some ≡ false → k.live ≡ zeros max_positions
  pub wait_none : waits ≡ false → (k.held ≡ zeros max_positions) × (k.pairs ≡ zeros max_rules)

-- the starts are carried along
pub record Carried (w : Automaton) (z : Traced) (x : ℕ) (some waits : Bool) (k : Starts) : Type 0 where
  pub starts_are : k ≡ next_starts w z x
  pub live_none : some ≡ false → k.live ≡ zeros max_positions
  pub wait_none : waits ≡ false → (k.held ≡ zeros max_positions) × (k.pairs ≡ zeros max_rules)
