-- The kinds of stream. What a list of calls gives is said for any of them, so a kind has what its
-- calls have: the state that an opening begins, what a scan is handed, and what scans and closings
-- give. Assumes nothing: these are definitions.
use Rattle.std.specs.Prelude.{Bool, true, false, ℕ, take}
use mathlib.Core.List.{List, map, zip}
use Rattle.table.specs.Automaton.{Automaton}
use Rattle.stream.specs.declared.Stream.{Stream}
use Rattle.stream.specs.Valid.{valid}
use Rattle.stream.specs.Calls as stream
use Rattle.stream.specs.Calls.{opened, scanned, scanned_lists, closed, closed_lists}
use Rattle.traced.specs.declared.Traced.{Traced}
use Rattle.traced.specs.Valid.{valid as traced-valid}
use Rattle.traced.specs.Calls as traced
use Rattle.meaning.specs.Ordered.{Report, Pair}

-- what a scan or a closing gives: its number, the bytes taken and the units used, the count of
-- reports, the lists as it leaves them, and the state that it hands back; "A call's reports are the
-- slots up to its count, as it left them."
pub record Given (S L : Type 0) : Type 0 where
  pub number : ℕ
  pub taken : ℕ
  pub used : ℕ
  pub count : ℕ
  pub lists : L
  pub reports : List Report
  pub state : S

-- states S, lent lists L, and C for what a scan is handed
pub record Kind (S L C : Type 0) : Type 0 where
  pub begun : List ℕ → S
  -- whether it serves tables in which a rule needs a start: it reports it, or has a smallest length
  pub starts : Bool
  -- a state's stream: the bytes taken, what is live, what is held; and whether a state fits a table
  pub stream : S → Stream
  pub valid : Automaton → S → Bool
  -- the report space of lists, and their first n slots
  pub space : L → ℕ
  pub front : (n : ℕ) → L → L
  -- what a scan is handed: its allowance, bytes and lists; the same with other bytes, and with
  -- another allowance
  pub allowance : C → ℕ
  pub block : C → List ℕ
  pub slots : C → L
  pub offer : List ℕ → C → C
  pub allow : ℕ → C → C
  -- the calls on any words
  pub scan : List ℕ → S → C → Given S L
  pub close : List ℕ → S → L → Given S L

-- ---- without starts

-- two lists: a pair in each slot, of a rule without flag 256, which "gives 0" for the start
abbrev pub without_start : Pair → Report
without_start p = (p.0, p.1, 0)

abbrev pub reports_in : (count : ℕ) → stream.Lists → List Report
reports_in count slots =
    map without_start (zip (take count slots.ids) (take count slots.offsets))

abbrev pub short : Kind Stream stream.Lists stream.Call
short = record {
  begun = λ t. (opened t).stream;
  starts = false;
  stream = λ s. s;
  valid = valid;
  space = stream.space;
  front = λ n l. record { ids = take n l.ids; offsets = take n l.offsets };
  allowance = λ c. c.allowance;
  block = λ c. c.block;
  slots = λ c. c.slots;
  offer = λ log c. record { allowance = c.allowance; block = log; slots = c.slots };
  allow = λ n c. record { allowance = n; block = c.block; slots = c.slots };
  scan = λ t s c. record {
    number = (scanned t s c).number;
    taken = (scanned t s c).taken;
    used = (scanned t s c).used;
    count = (scanned t s c).reports;
    lists = scanned_lists t s c;
    reports = reports_in (scanned t s c).reports (scanned_lists t s c);
    state = (scanned t s c).stream;
  };
  close = λ t s l. record {
    number = (closed t s l).number;
    taken = 0;
    used = 0;
    count = (closed t s l).reports;
    lists = closed_lists t s l;
    reports = reports_in (closed t s l).reports (closed_lists t s l);
    state = (closed t s l).stream;
  };
}

-- ---- with starts

-- four lists; the relative starts are no part of the ordered list: "Demand 3 covers the stream
-- start, not the relative one."
abbrev pub with_start : Pair × ℕ → Report
with_start p = (p.0.0, p.0.1, p.1)

abbrev pub traces_in : (count : ℕ) → traced.Lists → List Report
traces_in count slots =
    map with_start (zip (zip (take count slots.ids) (take count slots.offsets))
    (take count slots.starts))

abbrev pub traces : Kind Traced traced.Lists traced.Call
traces = record {
  begun = λ t. (traced.opened t).traced;
  starts = true;
  stream = λ z. z.stream;
  valid = traced-valid;
  space = traced.space;
  front = λ n l. record {
    ids = take n l.ids;
    offsets = take n l.offsets;
    starts = take n l.starts;
    relatives = take n l.relatives;
  };
  allowance = λ c. c.allowance;
  block = λ c. c.block;
  slots = λ c. c.slots;
  offer = λ log c. record { allowance = c.allowance; block = log; slots = c.slots };
  allow = λ n c. record { allowance = n; block = c.block; slots = c.slots };
  scan = λ t z c. record {
    number = (traced.scanned t z c).number;
    taken = (traced.scanned t z c).taken;
    used = (traced.scanned t z c).used;
    count = (traced.scanned t z c).reports;
    lists = traced.scanned_lists t z c;
    reports = traces_in (traced.scanned t z c).reports (traced.scanned_lists t z c);
    state = (traced.scanned t z c).traced;
  };
  close = λ t z l. record {
    number = (traced.closed t z l).number;
    taken = 0;
    used = 0;
    count = (traced.closed t z l).reports;
    lists = traced.closed_lists t z l;
    reports = traces_in (traced.closed t z l).reports (traced.closed_lists t z l);
    state = (traced.closed t z l).traced;
  };
}
