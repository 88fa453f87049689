-- The calls on a stream: the answer and the lent lists afterwards, for any words, any state and any
-- inputs. Assumes nothing: these are definitions.
use Rattle.std.specs.Prelude.{Bool, true, false, cond, Result, Ok, Err, List, ◌++◌, map, ℕ, ◌+◌, ◌*◌, min, eqb, ltb, length, drop}
use Rattle.refusals.specs.declared.Refusal.{Refusal}
use Rattle.refusals.specs.Refusal.{number_of, number_if}
use Rattle.sets.specs.Set.{empty_set}
use Rattle.kinds.specs.declared.Side.TheVariants.{Other}
use Rattle.table.specs.Layout.{rules_of, positions_of}
use Rattle.table.specs.Table.{is_table}
use Rattle.table.specs.Automaton.{automaton}
use Rattle.stream.specs.declared.Stream.{Stream}
use Rattle.stream.specs.declared.Opened as given
use Rattle.stream.specs.declared.Progress.{Progress}
use Rattle.stream.specs.declared.Ending.{Ending}
use Rattle.stream.specs.Byte.{Report, state_after, reports_of, cost_of, fits, close_reports}
use Rattle.stream.specs.Valid.{valid, stream_limit}

-- a state with nothing live, held, marked or taken, so that what it says of a last byte makes no
-- difference
abbrev pub fresh : (rules positions : ℕ) → Bool → Stream
fresh rules positions closed = record { live = empty_set; held = empty_set; reported = 0; pending = 0; last = Other; taken = 0; rules = rules; positions = positions; closed = closed }

-- the answer of an opening, by its number, and what a function gives as that answer
pub record Opened : Type 0 where
  pub number : ℕ
  pub stream : Stream

abbrev pub opened_of : given.Opened → Opened
opened_of o = record { number = number_if o.refusal; stream = o.stream }

-- "opening only 1"; "A refused opening hands back a closed state, all else in it zero."
unfoldable pub opened : List ℕ → Opened
opened t =
    cond (is_table t) (record { number = 0; stream = fresh (rules_of t) (positions_of t) false }) (record { number = 1; stream = fresh 0 0 true })

-- the lent lists: a report is a slot of each
pub record Lists : Type 0 where
  pub ids : List ℕ
  pub offsets : List ℕ

abbrev pub lists : (ids offsets : List ℕ) → Lists
lists ids offsets = record { ids = ids; offsets = offsets }

-- the report space: "the space is the shorter one"
abbrev pub space : Lists → ℕ
space l = min (length l.ids) (length l.offsets)

-- a list with what these reports give it at its front, and the lists with these reports: "slots
-- past the count keep their values"
abbrev pub column : {R A : Type 0} → (R → A) → List R → List A → List A
column f new old = map f new ++ drop (length new) old

unfoldable pub written : List Report → Lists → Lists
written new l = record { ids = column (λ r. r.id) new l.ids; offsets = column (λ r. r.end) new l.offsets }

-- 20: "Smallest report space becomes twice the number of rules (refusal 20, scans and closing)."
unfoldable pub space_number : List ℕ → ℕ → ℕ
space_number t room = cond (ltb room (2 * rules_of t)) 20 0

-- 21: "bytes taken so far plus this block over the limit"
abbrev pub over_limit : Stream → (len : ℕ) → Bool
over_limit s len = ltb stream_limit (s.taken + len)

-- "Scans check 1, 18, 19, 21, 20"
unfoldable pub scan_number : List ℕ → Stream → (len room : ℕ) → ℕ
scan_number t s len room =
    cond (is_table t)
    (cond (valid (automaton t) s)
    (cond s.closed 19
    (cond (over_limit s len) 21
    (space_number t room)))
    18)
    1

-- "closing the same without 21"
unfoldable pub close_number : List ℕ → Stream → (room : ℕ) → ℕ
close_number t s room = cond (is_table t) (cond (valid (automaton t) s) (cond s.closed 19 (space_number t room)) 18) 1

-- what a scan is handed besides words and state: the work that it may do, the bytes, the lent lists
pub record Call : Type 0 where
  pub allowance : ℕ
  pub block : List ℕ
  pub slots : Lists

abbrev pub call : (allowance : ℕ) (block : List ℕ) (slots : Lists) → Call
call allowance block slots = record { allowance = allowance; block = block; slots = slots }

-- The answer of a scan: its number, the bytes that it took, the reports that it wrote, the work that
-- it used, and the state afterwards.
pub record Scanned : Type 0 where
  pub number : ℕ
  pub taken : ℕ
  pub reports : ℕ
  pub used : ℕ
  pub stream : Stream

-- what a function that is handed state s gives as that answer
abbrev pub scanned_of : Stream → Result Progress Refusal → Scanned
scanned_of s (Ok p) = record { number = 0; taken = p.taken; reports = p.reports; used = p.used; stream = p.stream }
scanned_of s (Err r) = record { number = number_of r; taken = 0; reports = 0; used = 0; stream = s }

-- A scan on any words, state and inputs: the answer, and the lists afterwards. "Other refusals
-- return the number, no bytes taken, no reports, the state unchanged."; it "says what it used, 0
-- when refused"; "An allowance of 0 takes nothing and is by itself no refusal."; "Reports fill two
-- lent lists, ids and offsets, from the front".
module _ (t : List ℕ) (s : Stream) (c : Call) where
  abbrev pub call_number : ℕ
  call_number = scan_number t s (length c.block) (space c.slots)

  -- how many bytes of its block it takes if it is accepted
  unfoldable pub taken_by : ℕ
  taken_by = fits (automaton t) s c.allowance c.block (space c.slots) (length c.block)

  unfoldable pub scanned : Scanned
  scanned =
      cond (eqb call_number 0)
      (record {
        number = 0;
        taken = taken_by;
        reports = length (reports_of (automaton t) s c.block taken_by);
        used = cost_of (automaton t) s c.block taken_by;
        stream = state_after (automaton t) s c.block taken_by;
      })
      (record { number = call_number; taken = 0; reports = 0; used = 0; stream = s })

  unfoldable pub scanned_lists : Lists
  scanned_lists = cond (eqb call_number 0) (written (reports_of (automaton t) s c.block taken_by) c.slots) c.slots

-- "Closing sets the closed mark and changes nothing else in the state."
abbrev pub shut : Stream → Stream
shut s = record { live = s.live; held = s.held; reported = s.reported; pending = s.pending; last = s.last; taken = s.taken; rules = s.rules; positions = s.positions; closed = true }

-- A closing likewise.
pub record Closed : Type 0 where
  pub number : ℕ
  pub reports : ℕ
  pub stream : Stream

abbrev pub closed_of : Stream → Result Ending Refusal → Closed
closed_of s (Ok e) = record { number = 0; reports = e.reports; stream = e.stream }
closed_of s (Err r) = record { number = number_of r; reports = 0; stream = s }

module _ (t : List ℕ) (s : Stream) (l : Lists) where
  unfoldable pub closed : Closed
  closed =
      let number : ℕ = close_number t s (space l) in
      cond (eqb number 0)
      (record { number = 0; reports = length (close_reports (automaton t) s); stream = shut s })
      (record { number = number; reports = 0; stream = s })

  unfoldable pub closed_lists : Lists
  closed_lists = cond (eqb (close_number t s (space l)) 0) (written (close_reports (automaton t) s) l) l
