-- What a call of the interface leaves in the words of a state with starts is read back as the state
-- that it handed back, so the next call goes on from there.
use mathlib.Core.Path.{◌≡◌, refl}
use mathlib.Core.Bool.{false, true≢false}
use mathlib.Core.List.{List}
use Prim.Native.Nat.{ℕ}
use lib.Dec.{eqb}
use Rattle.table.specs.Automaton.{automaton}
use Rattle.traced.specs.Calls.{Scanned, Closed}
use Rattle.traced.specs.Calls as trace
use Rattle.states.specs.State.{trace_of, traced_form}
use Rattle.states.specs.Call.{short, stored_in, on_state}
use Rattle.states.proofs.Stored.{Full, trace-back, after-full, words-full, either, fresh-full, opened-back, call_back}
use Rattle.watcher_trace_c.specs.Interface.{scan_call, close_call}

module _ (t state : List ℕ) where
  pub open-back : short traced_form state ≡ false → trace_of (stored_in traced_form (trace.opened t).traced state) ≡ (trace.opened t).traced
  open-back e = opened-back traced_form state (trace.opened t).traced e (trace-back (trace.opened t).traced state (fresh-full t))

-- accepted or refused, a state with starts is whole, and a refused call hands back the one that it
-- was given
module _ (t state : List ℕ) (c : trace.Call) where
  abbrev scan : Scanned
  scan = trace.scanned t (trace_of state) c

  scan-full : Full scan.traced
  unfolding trace.scanned
  scan-full =
      either (λ (r : Scanned). Full r.traced) (eqb (trace.call_number t (trace_of state) c) 0)
      (after-full (automaton t) (trace_of state) c.block (trace.taken_by t (trace_of state) c) (words-full state)) (words-full state)

  scan-kept : eqb scan.number 0 ≡ false → trace_of state ≡ scan.traced
  unfolding trace.scanned
  scan-kept =
      either (λ (r : Scanned). eqb r.number 0 ≡ false → trace_of state ≡ r.traced) (eqb (trace.call_number t (trace_of state) c) 0)
      (λ e. absurd (true≢false e)) (λ e. refl)

  pub scan-back : short traced_form state ≡ false → trace_of (on_state (scan_call t c) state).words ≡ scan.traced
  scan-back e = call_back (scan_call t c) state e (trace-back scan.traced state scan-full) scan-kept

module _ (t state : List ℕ) (l : trace.Lists) where
  abbrev close : Closed
  close = trace.closed t (trace_of state) l

  close-full : Full close.traced
  unfolding trace.closed
  close-full =
      either (λ (r : Closed). Full r.traced) (eqb (trace.close_number t (trace_of state) (trace.space l)) 0) (words-full state) (words-full state)

  close-kept : eqb close.number 0 ≡ false → trace_of state ≡ close.traced
  unfolding trace.closed
  close-kept =
      either (λ (r : Closed). eqb r.number 0 ≡ false → trace_of state ≡ r.traced) (eqb (trace.close_number t (trace_of state) (trace.space l)) 0)
      (λ e. absurd (true≢false e)) (λ e. refl)

  pub close-back : short traced_form state ≡ false → trace_of (on_state (close_call t l) state).words ≡ close.traced
  close-back e = call_back (close_call t l) state e (trace-back close.traced state close-full) close-kept
