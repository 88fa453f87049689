-- A byte by an entry of a second table: "words that pass are followed as they stand", by one
-- definition, for any words. Assumes nothing: these are definitions.
use Rattle.std.specs.Prelude.{Bool, cond, not, ◌&&◌, List, ℕ, suc, ◌%◌, eqb, ltb, get_or}
use Rattle.sets.specs.Set.{on}
use Rattle.kinds.specs.declared.Side.{Side}
use Rattle.kinds.specs.Side.{side_of, side_word}
use Rattle.table.specs.Automaton.{Automaton}
use Rattle.steps.specs.Step.{windowed}
use Rattle.stream.specs.declared.Stream.{Stream}
use Rattle.stream.specs.Byte.{Report, Machine, busy_of, given, two_reports, two_marks, byte_reports, byte_state}
use Rattle.second.specs.Layout.{entries_of, resting_at, entry_live, entry_held, entry_pending, entry_last, entry_own, entry_late, entry_busy, names_entry, entry_in, is_loud, target_word}
use Rattle.second.specs.Entries.{same_words, first_of}

-- Where a stream stands: at an entry; at rest, where nothing is live inside the stream; or away
-- from the entries, where bytes are taken the old way.
pub data Place : Type 0 where
  at : ℕ → Place
  resting : Place
  away : Place

pub record Placed : Type 0 where
  pub stream : Stream
  pub place : Place

-- A state is looked up at the start of a call, and where so many bytes of the stream are taken, or
-- a multiple of that.
abbrev pub stretch : ℕ
stretch = 4096

-- both hold, or neither
abbrev pub same_bool : Bool → Bool → Bool
same_bool a b = cond a b (not b)

module _ (c : List ℕ) where
  -- byte x at entry e: whether it leads to an entry, to which, and the rules of its late run and of
  -- its own
  unfoldable pub leads : (e x : ℕ) → Bool
  leads e x = ltb e (entries_of c) && names_entry (entries_of c) (target_word c e x)

  abbrev pub next_entry : (e x : ℕ) → ℕ
  next_entry e x = entry_in (target_word c e x)

  unfoldable pub late_rules : (e x : ℕ) → ℕ
  late_rules e x = cond (is_loud (target_word c e x)) (entry_late c e (side_of x)) 0

  unfoldable pub own_rules : (e x : ℕ) → ℕ
  own_rules e x = cond (is_loud (target_word c e x)) (entry_own c (next_entry e x)) 0

  -- where it leads: at rest, if it has to be looked at and nothing is live before it and after it
  unfoldable pub arrives : (e x : ℕ) → Place
  arrives e x =
      cond (is_loud (target_word c e x) && (eqb (entry_busy c e) 0 && eqb (entry_busy c (next_entry e x)) 0)) resting
      (at (next_entry e x))

  -- the entry that the header names for a side, if nothing is live there; else the number of
  -- entries
  unfoldable pub rest_entry : Side → ℕ
  rest_entry side =
      let word : ℕ = get_or c (resting_at side) 0 in
      cond (names_entry (entries_of c) word && eqb (entry_busy c (entry_in word)) 0) (entry_in word) (entries_of c)

  -- The look-up: the first entry with this live set and side of the last byte. What is held counts
  -- for no byte to come. The start is looked up where no byte is taken, and no other entry is.
  unfoldable pub is_at : Stream → (e : ℕ) → Bool
  is_at s e =
      same_bool (eqb e 0) (eqb s.taken 0)
      && (same_words (entry_live c e) s.live && eqb (side_word (entry_last c e)) (side_word s.last))

  unfoldable pub standing : Stream → Place
  standing s = cond (ltb (first_of (entries_of c) (is_at s)) (entries_of c)) (at (first_of (entries_of c) (is_at s))) away

  abbrev pub looked_up : Stream → Placed
  looked_up s = record { stream = s; place = standing s }

module _ (w : Automaton) (c : List ℕ) where
  -- the tests of the two runs, by the rules that an entry names; windows are asked as ever
  abbrev pub late_by : Stream → (e x : ℕ) → ℕ → Bool
  late_by s e x = windowed w (on (late_rules c e x)) s.taken

  abbrev pub own_by : Stream → (e x : ℕ) → ℕ → Bool
  own_by s e x = windowed w (on (own_rules c e x)) (suc s.taken)

  -- The state after a byte that leads from entry e to an entry: what that entry says. Whatever it
  -- says, no pair is held before the second byte, so that the state stays valid.
  unfoldable pub step_to : (s : Stream) → (e x : ℕ) → Stream
  step_to s e x = record {
    live = entry_live c (next_entry c e x);
    held = entry_held c (next_entry c e x);
    reported = two_marks w (late_by s e x) (own_by s e x) s.reported;
    pending = cond (eqb s.taken 0) 0 (entry_pending c (next_entry c e x));
    last = entry_last c (next_entry c e x);
    taken = suc s.taken;
    rules = s.rules;
    positions = s.positions;
    closed = s.closed;
  }

  -- "when another would be needed, scanning goes on the old way from that byte"
  unfoldable pub by_entry : (e : ℕ) → Stream → ℕ → Placed
  by_entry e s x =
      cond (leads c e x) (record { stream = step_to s e x; place = arrives c e x }) (record { stream = byte_state w s x; place = away })

  unfoldable pub reports_by_entry : (e : ℕ) → Stream → ℕ → List Report
  reports_by_entry e s x =
      cond (leads c e x) (two_reports w (late_by s e x) (own_by s e x) s.reported (given w s.taken) (given w (suc s.taken))) (byte_reports w s x)

  -- at rest, a byte with which no match can begin changes nothing that is live
  unfoldable pub next_at : Place → Stream → ℕ → Placed
  next_at (at e) s x = by_entry e s x
  next_at resting s x = cond (w.opens x) (by_entry (rest_entry c s.last) s x) (record { stream = byte_state w s x; place = resting })
  next_at away s x = record { stream = byte_state w s x; place = away }

  unfoldable pub reports_at : Place → Stream → ℕ → List Report
  reports_at (at e) s x = reports_by_entry e s x
  reports_at resting s x = cond (w.opens x) (reports_by_entry (rest_entry c s.last) s x) (byte_reports w s x)
  reports_at away s x = byte_reports w s x

  unfoldable pub next_followed : Placed → ℕ → Placed
  next_followed z x =
      let y : Placed = next_at z.place z.stream x in
      cond (eqb (y.stream.taken % stretch) 0) (looked_up c y.stream) y

  -- a stream that follows a second table, as a machine: a byte costs what it costs without
  abbrev pub following : Machine Placed Report
  following = record { next = next_followed; reports = λ z. reports_at z.place z.stream; cost = λ z. suc (busy_of z.stream) }
