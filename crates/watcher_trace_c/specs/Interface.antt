-- Each function for C on a stream with starts: its number, and every lent word afterwards, for any
-- words. The calls themselves are those of the crate traced; the crate states adds the state as
-- words. Assumes nothing: these are definitions.
use Rattle.std.specs.Prelude.{List, ℕ}
use Rattle.traced.specs.declared.Traced.{Traced}
use Rattle.traced.specs.Calls.{Scanned, Closed}
use Rattle.traced.specs.Calls as traced
use Rattle.states.specs.State.{traced_form}
use Rattle.states.specs.Call.{short_state, Given, Call, Scan, scan, Closing, closing}

abbrev pub scan_given : Scanned → traced.Lists → Given Scan Traced traced.Lists
scan_given a l = record { numbers = scan a.number a.taken a.reports a.used; number = a.number; next = a.traced; slots = l }

abbrev pub close_given : Closed → traced.Lists → Given Closing Traced traced.Lists
close_given a l = record { numbers = closing a.number a.reports; number = a.number; next = a.traced; slots = l }

module _ (t : List ℕ) where
  abbrev pub scan_call : traced.Call → Call Scan Traced traced.Lists
  scan_call c = record {
    form = traced_form;
    none = scan short_state 0 0 0;
    slots = c.slots;
    gives = λ z. scan_given (traced.scanned t z c) (traced.scanned_lists t z c);
  }

  abbrev pub close_call : traced.Lists → Call Closing Traced traced.Lists
  close_call l = record {
    form = traced_form;
    none = closing short_state 0;
    slots = l;
    gives = λ z. close_given (traced.closed t z l) (traced.closed_lists t z l);
  }
