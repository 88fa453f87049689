-- What one byte does to a stream with starts, and what closing reports. Live and held positions,
-- and the cost, are those of a stream without; a rule ends where a position ends it whose match is
-- long enough. "each with the smallest start whose match is settled then". Assumes nothing: these
-- are definitions.
use Rattle.std.specs.Prelude.{Bool, true, false, cond, ◌&&◌, List, ℕ, suc, ◌-◌, get_or}
use Rattle.sets.specs.Set.{on, intersection_of}
use Rattle.kinds.specs.Side.{side_of}
use Rattle.table.specs.Layout.{max_rules}
use Rattle.table.specs.Gaps.{between, before_last, unsettled, at_the_end}
use Rattle.table.specs.Automaton.{Automaton}
use Rattle.steps.specs.Step.{list_from, ends, keepers_of, windowed, stepped_starts, start_at}
use Rattle.lengths.specs.Long.{long_in}
use Rattle.stream.specs.declared.Stream.{Stream}
use Rattle.stream.specs.Byte as stream
use Rattle.stream.specs.Byte.{Machine, next_live, next_held, next_pending, two_reports, state_by, late_test, held_test, end_test, busy_of}
use Rattle.traced.specs.declared.Starts.{Starts}
use Rattle.traced.specs.declared.Traced.{Traced}

-- the start of a report: none, of a rule that reports none, or an offset in the stream
pub data Start : Type 0 where
  none : Start
  from : ℕ → Start

-- a report: the pair of id and end offset, and its start
pub record Report : Type 0 where
  pub pair : stream.Report
  pub start : Start

-- a stream with these positions in place of its own
abbrev pub narrowed : Stream → (live held : List ℕ) → Stream
narrowed s live held = record {
  live = live;
  held = held;
  reported = s.reported;
  pending = s.pending;
  last = s.last;
  taken = s.taken;
  rules = s.rules;
  positions = s.positions;
  closed = s.closed;
}

module _ (w : Automaton) where
  -- the report of the rule in place a at this end offset, with this start
  abbrev pub given : (end : ℕ) → (start : ℕ → ℕ) → (a : ℕ) → Report
  given end start a =
      record { pair = stream.given w end a; start = cond (w.leftmost a) (from (start a)) none }

  -- the positions of a set that keep a start; every other position has 0
  abbrev pub keeping : List ℕ → List ℕ
  keeping set = intersection_of set (keepers_of w)

  -- What byte x makes of the starts of the live positions, and of those held in case it ends the
  -- last line.
  abbrev pub live_next : Stream → (live : List ℕ) → (x : ℕ) → List ℕ
  live_next s live x =
      let next : List ℕ = keeping (next_live w s x) in
      stepped_starts w false s.last (side_of x) (keeping s.live) live next s.taken

  abbrev pub held_next : Stream → (live : List ℕ) → (x : ℕ) → List ℕ
  held_next s live x =
      let next : List ℕ = keeping (next_held w s x) in
      stepped_starts w true s.last (side_of x) (keeping s.live) live next s.taken

  -- "smallest match length": a stream with the live positions that count, those whose longest match
  -- is long enough to be reported at the offset that is reached
  abbrev pub counted : Stream → (live : List ℕ) → Stream
  counted s live = narrowed s (long_in w s.live live s.taken) s.held

  -- What a byte brings is what it brings to a stream, by the positions that count: the tests of its
  -- two runs, and the pairs that it leaves held.
  abbrev pub late_long : Stream → (live : List ℕ) → ℕ → ℕ → Bool
  late_long s live x = late_test w (counted s live) x

  abbrev pub own_long : Stream → (live : List ℕ) → ℕ → ℕ → Bool
  own_long s live x =
      let end : ℕ = suc s.taken in
      windowed w (ends w unsettled (long_in w (next_live w s x) (live_next s live x) end)) end

  abbrev pub pending_long : Stream → (live : List ℕ) → ℕ → ℕ
  pending_long s live x = next_pending w (counted s live) x

  -- the starts of held pairs, for rules that report one
  abbrev pub pairs_next : Stream → (live : List ℕ) → (x : ℕ) → List ℕ
  pairs_next s live x =
      list_from 0 max_rules (λ a. cond (on (pending_long s live x) a && w.leftmost a)
      (start_at w (before_last s.last) s.live live s.taken a) 0)

  unfoldable pub next_starts : Traced → ℕ → Starts
  next_starts z x =
      let s : Stream = z.stream in
      let live : List ℕ = z.starts.live in
      record { live = live_next s live x; held = held_next s live x; pairs = pairs_next s live x }

  -- the start of a pair that waited for byte x, and of one that ends with it
  abbrev pub late_start : Traced → ℕ → ℕ → ℕ
  late_start z x =
      let s : Stream = z.stream in
      start_at w (between s.last (side_of x)) s.live z.starts.live s.taken

  abbrev pub own_start : Traced → ℕ → ℕ → ℕ
  own_start z x =
      let s : Stream = z.stream in
      start_at w unsettled (next_live w s x) (next_starts z x).live (suc s.taken)

  -- one byte: the reports that it brings, and the state after it
  unfoldable pub byte_reports : Traced → ℕ → List Report
  byte_reports z x =
      let s : Stream = z.stream in
      let live : List ℕ = z.starts.live in
      two_reports w (late_long s live x) (own_long s live x) s.reported
      (given s.taken (late_start z x)) (given (suc s.taken) (own_start z x))

  unfoldable pub stream_next : Stream → (live : List ℕ) → ℕ → Stream
  stream_next s live x = state_by w (late_long s live x) (own_long s live x) (pending_long s live x) s x

  unfoldable pub next_state : Traced → ℕ → Traced
  next_state z x =
      record { stream = stream_next z.stream z.starts.live x; starts = next_starts z x }

  -- a stream with starts as a machine: a byte costs what it costs without
  abbrev pub traced : Machine Traced Report
  traced = record { next = next_state; reports = byte_reports; cost = λ z. suc (busy_of z.stream) }

  -- the start of a pair at closing: the smaller of the live and of the held positions'
  abbrev pub end_start : Traced → ℕ → ℕ
  end_start z a =
      let s : Stream = z.stream in
      let gap : ℕ = at_the_end s.last in
      let live : ℕ = start_at w gap s.live z.starts.live s.taken a in
      start_at w gap s.held z.starts.held live a

  -- at closing a held position counts by its own start
  abbrev pub end_long : Traced → ℕ → Bool
  end_long z =
      let s : Stream = z.stream in
      let live : List ℕ = long_in w s.live z.starts.live s.taken in
      let held : List ℕ = long_in w s.held z.starts.held s.taken in
      end_test w (narrowed s live held)

  unfoldable pub close_reports : Traced → List Report
  close_reports z =
      let s : Stream = z.stream in
      two_reports w (held_test w s) (end_long z) s.reported
      (given (s.taken - 1) (λ a. get_or z.starts.pairs a 0)) (given s.taken (end_start z))
