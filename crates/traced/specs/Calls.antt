-- The calls on a stream with starts: the answer and the four lent lists afterwards, for any words,
-- any state and any inputs. Assumes nothing: these are definitions.
use Rattle.std.specs.Prelude.{cond, Result, Ok, Err, List, ℕ, min, eqb, ℤ, pos, ◌-ℤ◌, length}
use Rattle.refusals.specs.declared.Refusal.{Refusal}
use Rattle.refusals.specs.Refusal.{number_of, number_if}
use Rattle.table.specs.Layout.{max_rules, max_positions}
use Rattle.table.specs.Table.{is_table}
use Rattle.table.specs.Automaton.{automaton}
use Rattle.steps.specs.Step.{list_from}
use Rattle.stream.specs.Byte.{after, reports_by, cost_by, fits_by}
use Rattle.stream.specs.Calls as stream
use Rattle.stream.specs.Calls.{column, over_limit, space_number, shut}
use Rattle.traced.specs.declared.Starts.{Starts}
use Rattle.traced.specs.declared.Traced.{Traced}
use Rattle.traced.specs.declared.Opened as given
use Rattle.traced.specs.declared.Progress.{Progress}
use Rattle.traced.specs.declared.Ending.{Ending}
use Rattle.traced.specs.Byte.{Start, none, from, Report, traced, close_reports}
use Rattle.traced.specs.Valid.{valid}

-- a state with no starts
abbrev pub no_starts : Starts
no_starts = record { live = list_from 0 max_positions (λ q. 0); held = list_from 0 max_positions (λ q. 0); pairs = list_from 0 max_rules (λ a. 0) }

-- the answer of an opening, by its number, and what a function gives as that answer
pub record Opened : Type 0 where
  pub number : ℕ
  pub traced : Traced

abbrev pub opened_of : given.Opened → Opened
opened_of o = record { number = number_if o.refusal; traced = o.traced }

-- an opening is a stream's
unfoldable pub opened : List ℕ → Opened
opened t = record { number = (stream.opened t).number; traced = record { stream = (stream.opened t).stream; starts = no_starts } }

-- the lent lists: a report is a slot of each
pub record Lists : Type 0 where
  pub ids : List ℕ
  pub offsets : List ℕ
  pub starts : List ℕ
  pub relatives : List ℤ

abbrev pub lists : (ids offsets starts : List ℕ) → (relatives : List ℤ) → Lists
lists ids offsets starts relatives = record { ids = ids; offsets = offsets; starts = starts; relatives = relatives }

-- "Space is the shortest of the four lists."
abbrev pub space : Lists → ℕ
space l = min (min (length l.ids) (length l.offsets)) (min (length l.starts) (length l.relatives))

-- "Reports gain two lists: the start in the stream, and the start measured from the first byte lent
-- to this call, which is below zero when the match began in an earlier block"; "A rule without the
-- flag gives 0 in both."
abbrev pub in_stream : Start → ℕ
in_stream none = 0
in_stream (from s) = s

abbrev pub from_offset : (first : ℕ) → Start → ℤ
from_offset first none = pos 0
from_offset first (from s) = pos s -ℤ pos first

unfoldable pub written : (first : ℕ) → List Report → Lists → Lists
written first new l = record {
  ids = column (λ r. r.pair.id) new l.ids;
  offsets = column (λ r. r.pair.end) new l.offsets;
  starts = column (λ r. in_stream r.start) new l.starts;
  relatives = column (λ r. from_offset first r.start) new l.relatives;
}

-- "Scans check 1, 18, 19, 21, 20", "closing the same without 21"
unfoldable pub scan_number : List ℕ → Traced → (len room : ℕ) → ℕ
scan_number t z len room =
    cond (is_table t)
    (cond (valid (automaton t) z)
    (cond z.stream.closed 19
    (cond (over_limit z.stream len) 21
    (space_number t room)))
    18)
    1

unfoldable pub close_number : List ℕ → Traced → (room : ℕ) → ℕ
close_number t z room = cond (is_table t) (cond (valid (automaton t) z) (cond z.stream.closed 19 (space_number t room)) 18) 1

-- what a scan is handed besides words and state
pub record Call : Type 0 where
  pub allowance : ℕ
  pub block : List ℕ
  pub slots : Lists

abbrev pub call : (allowance : ℕ) (block : List ℕ) (slots : Lists) → Call
call allowance block slots = record { allowance = allowance; block = block; slots = slots }

-- The answer of a scan: its number, the bytes that it took, the reports that it wrote, the work that
-- it used, and the state afterwards.
pub record Scanned : Type 0 where
  pub number : ℕ
  pub taken : ℕ
  pub reports : ℕ
  pub used : ℕ
  pub traced : Traced

-- what a function that is handed state z gives as that answer
abbrev pub scanned_of : Traced → Result Progress Refusal → Scanned
scanned_of z (Ok p) = record { number = 0; taken = p.taken; reports = p.reports; used = p.used; traced = p.traced }
scanned_of z (Err r) = record { number = number_of r; taken = 0; reports = 0; used = 0; traced = z }

-- A scan on any words, state and inputs: the answer, and the lists afterwards. The relative starts
-- are measured from the bytes taken before the call.
module _ (t : List ℕ) (z : Traced) (c : Call) where
  abbrev pub call_number : ℕ
  call_number = scan_number t z (length c.block) (space c.slots)

  -- how many bytes of its block it takes if it is accepted
  unfoldable pub taken_by : ℕ
  taken_by = fits_by (traced (automaton t)) z c.allowance c.block (space c.slots) (length c.block)

  unfoldable pub scanned : Scanned
  scanned =
      cond (eqb call_number 0)
      (record {
        number = 0;
        taken = taken_by;
        reports = length (reports_by (traced (automaton t)) z c.block taken_by);
        used = cost_by (traced (automaton t)) z c.block taken_by;
        traced = after (traced (automaton t)) z c.block taken_by;
      })
      (record { number = call_number; taken = 0; reports = 0; used = 0; traced = z })

  unfoldable pub scanned_lists : Lists
  scanned_lists =
      cond (eqb call_number 0) (written z.stream.taken (reports_by (traced (automaton t)) z c.block taken_by) c.slots) c.slots

-- the answer of a closing likewise, and what a function gives as that answer
pub record Closed : Type 0 where
  pub number : ℕ
  pub reports : ℕ
  pub traced : Traced

abbrev pub closed_of : Traced → Result Ending Refusal → Closed
closed_of z (Ok e) = record { number = 0; reports = e.reports; traced = e.traced }
closed_of z (Err r) = record { number = number_of r; reports = 0; traced = z }

-- A closing likewise; "at closing it is measured from the stream's end".
module _ (t : List ℕ) (z : Traced) (l : Lists) where
  unfoldable pub closed : Closed
  closed =
      let number : ℕ = close_number t z (space l) in
      cond (eqb number 0)
      (record { number = 0; reports = length (close_reports (automaton t) z); traced = record { stream = shut z.stream; starts = z.starts } })
      (record { number = number; reports = 0; traced = z })

  unfoldable pub closed_lists : Lists
  closed_lists = cond (eqb (close_number t z (space l)) 0) (written z.stream.taken (close_reports (automaton t) z) l) l
