-- Each function for C: its number, and every lent word afterwards, for any words. The calls
-- themselves are those of the crates table, rules and stream; the crate states adds the state as
-- words, and number 100 for a state of too few words, which changes nothing. Assumes nothing: these
-- are definitions.
use Rattle.std.specs.Prelude.{cond, ◌&&◌, List, ℕ}
use Rattle.table.specs.Table.{is_table}
use Rattle.table.specs.Automaton.{automaton}
use Rattle.stream.specs.declared.Stream.{Stream}
use Rattle.stream.specs.Calls.{Scanned, Closed}
use Rattle.stream.specs.Valid.{needs_starts}
use Rattle.stream.specs.Calls as stream
use Rattle.pattern.specs.declared.bounds.Bounds.{Bounds}
use Rattle.plain.specs.Answer.{Matched}
use Rattle.matched.specs.Matched.{matched_part}
use Rattle.states.specs.State.{stream_form}
use Rattle.states.specs.Call.{short_state, Given, Call, Scan, scan, Closing, closing}

-- the test of words: 0 for a table, 1 for anything else
unfoldable pub test_number : List ℕ → ℕ
test_number t = cond (is_table t) 0 1

-- whether a rule of a table needs a start: 1 if one does
unfoldable pub needs_number : List ℕ → ℕ
needs_number t = cond (is_table t && needs_starts (automaton t)) 1 0

-- ---- scans and closings

abbrev pub scan_given : Scanned → stream.Lists → Given Scan Stream stream.Lists
scan_given a l = record { numbers = scan a.number a.taken a.reports a.used; number = a.number; next = a.stream; slots = l }

abbrev pub close_given : Closed → stream.Lists → Given Closing Stream stream.Lists
close_given a l = record { numbers = closing a.number a.reports; number = a.number; next = a.stream; slots = l }

module _ (t : List ℕ) where
  abbrev pub scan_call : stream.Call → Call Scan Stream stream.Lists
  scan_call c = record {
    form = stream_form;
    none = scan short_state 0 0 0;
    slots = c.slots;
    gives = λ s. scan_given (stream.scanned t s c) (stream.scanned_lists t s c);
  }

  abbrev pub close_call : stream.Lists → Call Closing Stream stream.Lists
  close_call l = record {
    form = stream_form;
    none = closing short_state 0;
    slots = l;
    gives = λ s. close_given (stream.closed t s l) (stream.closed_lists t s l);
  }

-- where the matched bytes stand: 1 in the tail, 0 in the block
unfoldable pub matched_source : (tail block : List ℕ) → (offset start end : ℕ) → ℕ
matched_source tail block offset start end = cond (matched_part tail block offset start end).tail 1 0

-- ---- the plain matcher

abbrev pub bounds : (lowest highest shortest : ℕ) → Bounds
bounds lowest highest shortest = record { lowest = lowest; highest = highest; shortest = shortest }

abbrev pub matched : (number place count : ℕ) → Matched
matched number place count = record { number = number; place = place; count = count }
